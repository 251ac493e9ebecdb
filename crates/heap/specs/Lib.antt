pub mod Asides
pub mod Checks
pub mod Collected
pub mod Effects
pub mod Phases
pub mod Views
