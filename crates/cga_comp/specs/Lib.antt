pub mod Table
pub mod Components
