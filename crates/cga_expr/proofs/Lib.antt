mod Layers
mod Operands
mod Whole
pub mod Door
