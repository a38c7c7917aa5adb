pub mod SlotLemmas
pub mod PileLemmas
pub mod EmptyLemmas
pub mod MissingLemmas
