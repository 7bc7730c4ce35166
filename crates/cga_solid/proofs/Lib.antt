mod Boxed
mod Closed
mod Halves
mod Local
mod Cornered
pub mod Door
