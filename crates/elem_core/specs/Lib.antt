pub mod Cell
pub mod Naming
pub mod Shown
pub mod Codes
pub mod Kept
pub mod Worked
