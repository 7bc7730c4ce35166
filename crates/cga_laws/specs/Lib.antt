pub mod Undos
pub mod Scripts
pub mod Refusing
pub mod Staying
pub mod Restoring
pub mod Dumped
