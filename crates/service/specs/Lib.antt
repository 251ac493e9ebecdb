pub mod Course
pub mod Moments
pub mod Still
