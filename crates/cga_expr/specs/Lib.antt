pub mod Names
pub mod Arithmetic
pub mod Value
pub mod Holds
