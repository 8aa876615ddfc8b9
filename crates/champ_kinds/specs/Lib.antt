pub mod Root
pub mod Binding
pub mod Kinds
pub mod Stands
pub mod Edit
pub mod Laws
pub mod Says
