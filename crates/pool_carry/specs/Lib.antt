pub mod Carried
pub mod Named
pub mod Laws
pub mod Computed
pub mod Documents
pub mod Worked
pub mod Making
