mod Lists
mod Working
mod Turning
mod Begin
mod Exact
mod Record
mod Made
mod Budget
mod OverBudget
mod Update
mod Prefixes
mod Loop
mod Late
mod Own
mod OneLot
pub mod Door
