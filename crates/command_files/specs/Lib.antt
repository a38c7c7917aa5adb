pub mod Calls
pub mod Sources
pub mod Ahead
