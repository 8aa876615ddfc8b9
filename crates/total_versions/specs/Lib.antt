pub mod Answers
pub mod Calls
pub use Rattle.versions.specs.Store
pub use Rattle.versions.specs.Sorted
