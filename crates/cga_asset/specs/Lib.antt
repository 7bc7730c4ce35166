pub mod Fit
pub mod Words
pub mod Views
pub mod Lines
pub mod Pending
pub mod Reader
pub mod Wardrobe
pub mod Dressed
