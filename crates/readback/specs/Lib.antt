pub mod Stored
pub mod Pairs
