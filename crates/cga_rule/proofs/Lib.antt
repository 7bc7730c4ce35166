mod Told
mod Exprs
mod Conds
mod Items
mod Equal
pub mod Door
