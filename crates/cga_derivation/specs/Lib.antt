pub mod Derivation
pub mod Stamps
pub mod Consistent
pub mod Sites
pub mod Turns
pub mod Laws
