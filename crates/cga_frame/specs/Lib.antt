pub mod Axes
pub mod Box
pub mod Component
pub mod Inside
pub mod Meeting
pub mod Points
pub mod Scope
pub mod Standing
