mod Balanced
mod Turns
mod Living
mod Wanting
