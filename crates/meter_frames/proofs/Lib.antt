pub mod FrameLemmas
pub mod OldFrameLemmas
