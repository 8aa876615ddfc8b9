pub mod Merge
pub mod Side
pub mod Need
pub mod Spread
pub mod Walk
pub mod Chains
