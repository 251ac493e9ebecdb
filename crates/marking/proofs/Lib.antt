pub mod Steps
pub mod Walks
pub mod Resumes
pub mod Rounds
pub mod Fades
pub mod Images
pub mod Bridge
