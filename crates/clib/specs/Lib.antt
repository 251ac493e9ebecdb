pub mod Errors
pub mod Forms
pub mod Schemes
pub mod Turns
pub mod Kept
pub mod States
