pub mod CodeLemmas
pub mod NamingLemmas
