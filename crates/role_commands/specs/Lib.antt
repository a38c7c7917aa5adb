pub mod Told
pub mod CollectEnds
pub mod MeterEnds
pub mod Parts
