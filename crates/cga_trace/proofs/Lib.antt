mod Again
mod Cutting
mod Parts
mod LineWords
mod Sorted
mod Kept
mod Places
mod Turning
mod Tells
mod TraceLines
mod Judging
pub mod Door
