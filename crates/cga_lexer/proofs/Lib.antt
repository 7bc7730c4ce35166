mod Running
mod Lexing
mod Names
mod Numbers
pub mod Door
