pub mod Words
pub mod Plain
pub mod Town
pub mod Within
pub mod Exits
