pub mod Begun
pub mod Desk
pub mod Memory
pub mod MemoryWires
pub mod Parts
pub mod Sink
pub mod Wire
