pub mod Count
pub mod Marked
pub mod Slab
pub mod Sorts
pub mod Map
