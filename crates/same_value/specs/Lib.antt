pub mod Cells
pub mod Entries
pub mod Contents
pub mod Apart
pub mod Congruent
pub mod Lines
pub mod CompareLaws
pub mod Places
