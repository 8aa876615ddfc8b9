pub mod StandLemmas
pub mod HeldLemmas
pub mod PlacedLemmas
