pub mod Rounds
pub mod Calls
