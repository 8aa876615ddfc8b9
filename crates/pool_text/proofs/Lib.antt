pub mod Placed
pub mod Gathered
pub mod Renamed
pub mod PoolRows
pub mod Ordered
pub mod Held
pub mod OnePool
pub mod FormRows
pub mod Behind
pub mod RootedBelow
pub mod ListWalk
pub mod ListPlaces
pub mod ReadBack
pub mod DocumentRows
pub mod DocumentBack
pub mod HistoryRead
mod TextLengths
pub mod EachRead
pub mod NumbersRead
pub mod Refusals
pub mod PartsRead
pub mod PoolRead
mod DocumentText
