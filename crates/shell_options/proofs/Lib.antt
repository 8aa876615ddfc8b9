pub mod SplitLemmas
pub mod OptionsLemmas
pub mod PartLemmas
