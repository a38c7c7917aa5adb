pub mod ToldLemmas
pub mod ShapeLemmas
pub mod NoteLemmas
