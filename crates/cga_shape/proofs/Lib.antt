mod Equal
mod Runs
pub mod Door
