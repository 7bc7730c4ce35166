pub mod Equal
pub mod Root
pub mod Runs
