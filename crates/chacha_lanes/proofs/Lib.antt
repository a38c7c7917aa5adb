pub mod BlockLemmas
pub mod LaneLemmas
pub mod WordBounds
pub mod WordLemmas
