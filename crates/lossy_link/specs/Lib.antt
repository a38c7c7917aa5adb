pub mod Arrivals
pub mod Waiting
pub mod Calls
pub mod Histories
