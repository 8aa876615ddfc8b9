pub mod Lines
pub mod Commands
pub mod View
pub mod Worked
