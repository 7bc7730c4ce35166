mod Agreement
mod Asked
mod Clean
mod Firsts
mod Layers
mod Placed
mod Reading
mod Remembered
mod Rising
mod Sifted
mod Telling
mod Valid
pub mod Door
