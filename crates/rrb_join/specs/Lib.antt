pub mod Answers
pub mod Seam
pub mod Rest
pub mod Unmade
pub mod Joining
