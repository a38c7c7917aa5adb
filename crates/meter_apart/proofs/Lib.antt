pub mod JournalLemmas
pub mod PartLemmas
pub mod StateLemmas
pub mod ReplyLemmas
pub mod CallLemmas
pub mod ReplayLemmas
pub mod LawLemmas
pub mod KeyLemmas
