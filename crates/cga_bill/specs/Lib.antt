pub mod Measures
pub mod Amounts
pub mod Bill
pub mod Parts
pub mod Lines
pub mod Texts
