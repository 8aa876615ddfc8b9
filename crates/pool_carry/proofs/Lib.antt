mod Worked
mod PartPlaces
mod CanonRows
mod Rows
mod Filled
mod Coded
mod Sorted
mod Walk
mod EntryRows
mod EntryWalk
mod Moved
mod Images
mod RowImages
mod WalkRows
mod Rooted
mod FirstRows
mod Related
mod OneRow
mod Matched
mod Agree
mod OneCarried
mod OwnLinks
mod NewRows
mod RowEq
mod Chained
mod Parts
mod Standing
pub mod OwnVectors
mod CanonOrder
mod ImagesStand
pub mod MadeSpace
mod CarriedStanding
mod RowsBelow
mod ToldByForm
mod AnyOrder
mod Ranked
mod NewForms
mod NewPool
mod EntriesSame
pub mod PlacedTries
pub mod Goes
pub mod Followed
mod Identities
mod Kept
mod Once
mod RowsOver
mod Joined
