pub mod FaultLemmas
pub mod ToldLemmas
pub mod CourseLemmas
pub mod EndLemmas
pub mod KeyLemmas
pub mod MeterLemmas
