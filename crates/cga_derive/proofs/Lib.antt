mod Compared
mod Placing
mod PlaceAll
mod Working
mod Starting
mod Streaks
mod Stepping
