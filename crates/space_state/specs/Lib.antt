pub mod Roots
pub mod BatchEdits
pub mod Turns
pub mod Needed
pub mod Stepping
pub mod View
pub mod Asked
pub mod Texts
