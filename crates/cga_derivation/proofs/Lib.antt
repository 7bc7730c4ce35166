mod Lists
mod Sites
mod Along
mod Least
mod Apart
mod Budget
mod Counts
mod Keys
mod Turn
mod Ends
mod Stamps
mod Derive
mod One
mod Inherited
mod Unique
mod Derived
mod Within
pub mod Door
