pub mod Ticks
pub mod ByGroup
pub mod Report
pub mod Summary
pub mod Posts
pub mod Runs
pub mod Statements
pub mod Rows
