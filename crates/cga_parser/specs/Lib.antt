pub mod Grammar
pub mod Portions
pub mod Blocks
pub mod Kept
pub mod Gained
pub mod BlockTells
pub mod PrintedRules
pub mod GrammarLines
