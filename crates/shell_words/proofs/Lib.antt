pub mod NumberLemmas
pub mod GrammarLemmas
pub mod CommandLemmas
