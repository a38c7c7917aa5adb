pub mod RowLemmas
pub mod PutLemmas
pub mod PartLemmas
pub mod PartRowsRead
pub mod PartKeysPut
pub mod SpelledParts
pub mod WholeLemmas
