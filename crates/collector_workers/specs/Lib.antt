pub mod Batch
pub mod Gathering
pub mod Outcomes
