mod Boxes
mod Components
mod Flags
mod Frames
mod Turns
mod Inside
mod Intervals
mod Spans
mod Standing
pub mod Door
