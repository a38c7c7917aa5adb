pub mod Crossings
pub mod Dealing
pub mod Gathered
pub mod Joins
pub mod Merging
pub mod Openings
pub mod Told
