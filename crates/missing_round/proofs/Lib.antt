pub mod SetLemmas
pub mod BlockLemmas
pub mod WordLemmas
