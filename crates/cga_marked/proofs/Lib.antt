mod Count
mod Slots
mod Books
mod Room
mod Sorts
mod Sweep
mod Names
mod Swaps
mod Shelf
pub mod Door
