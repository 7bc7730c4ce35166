mod Words
mod Settings
mod Lists
mod Turns
mod Count
mod Law
mod Example
mod Named
mod Heights
pub mod Door
