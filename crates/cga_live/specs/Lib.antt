pub mod Live
pub mod Means
pub mod Program
