pub mod Poured
pub mod WireLemmas
