pub mod Hull
pub mod Blocks
