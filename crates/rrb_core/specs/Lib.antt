pub mod Seq
pub mod Push
pub mod Vector
pub mod Levels
pub mod Build
pub mod Edit
pub mod Filled
