pub mod Files
pub mod Number
pub mod Grammar
pub mod Shown
pub mod Worked
