pub mod Around
pub mod Lasting
pub mod Local
pub mod Near
pub mod Occlusion
pub mod Tree
