mod Decimals
mod Instances
mod Plain
mod Runs
mod Spans
mod DeltaTexts
mod DeltaCuts
mod DeltaFields
mod DeltaTells
mod DeltaLines
mod DeltaReaders
pub mod Door
