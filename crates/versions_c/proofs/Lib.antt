pub mod CallLemmas
pub mod Fields
pub mod FillLemmas
