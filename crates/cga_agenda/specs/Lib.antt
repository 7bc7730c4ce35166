pub mod Edit
pub mod Work
pub mod Record
pub mod Known
pub mod Exact
pub mod Loop
pub mod Laws
pub mod OneLot
