pub mod GivenUpLemmas
pub mod LinesLemmas
pub mod VectorsLemmas
pub mod EditingLemmas
pub mod PlacedLemmas
