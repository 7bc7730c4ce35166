pub mod Lines
pub mod Agenda
pub mod Last
pub mod Remembered
