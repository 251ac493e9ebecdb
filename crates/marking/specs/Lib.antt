pub mod Marks
pub mod Unmarks
pub mod Begins
