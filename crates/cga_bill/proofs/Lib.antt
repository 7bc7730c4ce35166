mod Counts
mod Summed
mod Steps
mod Made
mod Bounds
mod Lists
mod Unique
mod Parts
pub mod Door
