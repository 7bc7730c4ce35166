pub mod History
pub mod Inside
