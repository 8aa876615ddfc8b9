pub mod TestLemmas
pub mod VectorLaw
pub mod DamageLemmas
pub mod PoolLaws
pub mod EntriesBelow
pub mod GroupLemmas
pub mod TrieTests
pub mod TrieLaw
mod History
pub mod VectorReadings
pub mod TrieReadings
pub mod PoolPasses
pub mod OwnRows
pub mod DocumentLaw
pub mod Versions
mod RowTests
mod ShapeLemmas
mod UndoLength
mod EntryTests
mod KeptRows
mod FactLemmas
mod FactRows
pub mod RootLemmas
mod CodeLists
mod KeptLemmas
mod DigitSteps
mod TrieRowLemmas
mod ChainRowLemmas
mod RowsKept
mod CountedLemmas
mod OrderWalk
mod OrderTest
mod Refused
pub mod SameVectors
pub mod SameTries
pub mod SameKinds
pub mod RowsStay
mod TestedRows
