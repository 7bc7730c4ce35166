mod Places
mod Removed
mod Applying
mod Written
mod Lists
mod ById
mod Values
mod Ends
mod Groups
mod Told
mod Noted
mod Rules
pub mod Door
