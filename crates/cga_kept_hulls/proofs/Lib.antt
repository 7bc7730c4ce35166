mod Alike
mod Held
pub mod Door
