pub mod Words
pub mod Settings
pub mod Count
pub mod Laws
pub mod Example
pub mod Heights
