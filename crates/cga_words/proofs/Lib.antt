mod Bare
mod Numbers
mod Digits
mod Plain
mod Says
mod Within
mod Endings
pub mod Door
