pub mod Faults
pub mod Corners
pub mod Faces
pub mod Listed
pub mod Solids
