mod Judging
mod Acts
mod Readings
mod Exits
mod Objects
mod Stepping
pub mod Collected
