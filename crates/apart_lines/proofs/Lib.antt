pub mod FieldLemmas
pub mod FrameLemmas
pub mod JournalLemmas
pub mod SaidLemmas
pub mod HeadLemmas
pub mod LawLemmas
mod NumberLemmas
