pub mod Files
pub mod Pouring
pub mod Wires
