pub mod Acts
pub mod Frames
pub mod Graphs
pub mod Offsets
pub mod Statements
pub mod Rows
pub mod Meters
pub mod Honest
