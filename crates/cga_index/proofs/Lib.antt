mod Askers
mod LastingTree
mod Local
mod Members
mod Over
mod Levels
mod Blocks
mod NearAskers
mod Visiting
mod Widening
pub mod Door
