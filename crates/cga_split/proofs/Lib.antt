mod Covers
mod Parts
mod RepeatParts
mod Scopes
mod Shares
mod Subdivs
mod Sums
