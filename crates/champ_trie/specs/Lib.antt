pub mod Bits
pub mod Trie
pub mod Reach
pub mod Edit
pub mod Laws
pub mod Walk
pub mod Stack
pub mod Canon
