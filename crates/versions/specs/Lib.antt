pub mod Store
pub mod History
pub mod Roots
pub mod Rooted
pub mod Sorted
pub mod Keyed
pub mod Pieces
pub mod Bound
