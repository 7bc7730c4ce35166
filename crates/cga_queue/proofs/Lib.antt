mod Cases
mod Entries
mod OnIt
mod TwoLines
mod NoEntry
mod Later
mod OneByOne
mod Sorting
mod LinesTold
mod Stamped
mod Bounding
pub mod Door
