pub mod Tree
pub mod Replaced
