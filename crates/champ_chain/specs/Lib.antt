pub mod Entry
pub mod Chain
pub mod KeySpot
pub mod Old
pub mod Laws
