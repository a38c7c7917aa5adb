pub mod ArrivalLemmas
pub mod WaitingLemmas
pub mod CallLemmas
pub mod HistoryLemmas
