pub mod CallLemmas
pub mod CommitLemmas
pub mod WordsPieces
pub mod AheadLemmas
