pub mod Path
pub mod Edit
pub mod Steps
pub mod Laws
pub mod Worked
