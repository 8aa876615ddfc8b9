pub mod Lines
pub mod Mapped
pub mod Plain
pub mod Spaces
pub mod Named
pub mod Laws
pub mod Documents
pub mod Worked
