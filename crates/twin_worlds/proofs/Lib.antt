pub mod FilledLines
pub mod AnswerRows
pub mod WorldWords
pub mod CompareLemmas
pub mod MovedLemmas
pub mod TwinLemmas
pub mod RowTexts
pub mod HonestLemmas
