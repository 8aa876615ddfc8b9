pub mod Loads
pub mod Rows
pub mod Making
pub mod Kinds
pub mod Laws
