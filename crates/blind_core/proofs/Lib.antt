pub mod PlaceLemmas
pub mod ShareLemmas
pub mod WordLoops
pub mod RowLemmas
pub mod RowLoop
pub mod GroupLemmas
pub mod AnswerLoops
pub mod ColumnLemmas
