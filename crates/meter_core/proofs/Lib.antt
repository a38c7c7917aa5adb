pub mod CallLemmas
pub mod NoteLemmas
