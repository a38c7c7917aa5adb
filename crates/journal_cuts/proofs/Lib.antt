pub mod CutLemmas
pub mod FileLemmas
