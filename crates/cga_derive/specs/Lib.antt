pub mod Compared
pub mod Streaks
pub mod Run
pub mod Underway
pub mod Derives
pub mod Laws
