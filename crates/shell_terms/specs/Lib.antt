pub mod Edit
pub mod Command
pub mod Kinds
