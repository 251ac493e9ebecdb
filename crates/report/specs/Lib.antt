pub mod Faults
pub mod Reports
pub mod Reading
pub mod Loads
pub mod Laws
