pub mod Graphs
pub mod Steps
pub mod Search
pub mod Moves
pub mod Statements
pub mod Chains
