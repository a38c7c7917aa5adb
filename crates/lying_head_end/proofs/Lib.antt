pub mod SetLemmas
pub mod ActLemmas
pub mod GraphLemmas
pub mod WorldLemmas
pub mod ConverseLemmas
pub mod MeterLemmas
pub mod HonestLemmas
pub mod OpenLemmas
