pub mod Faults
pub mod Cuts
pub mod Subdiv
pub mod Repeat
pub mod Split
