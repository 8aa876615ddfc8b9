mod Worked
mod TrieFrame
mod PlainMaps
mod ChangedStands
mod MappedRows
mod MappedRange
pub mod MappedStanding
mod CodeLists
mod LineStates
pub mod LinesTold
pub mod KeptLines
mod LeadingSpaces
mod LineTexts
pub mod Spaced
pub mod FewCells
