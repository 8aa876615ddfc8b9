pub mod Crossing
pub mod Order
pub mod Owned
pub mod Shown
pub mod Stores
pub mod Values
