pub mod Fields
pub mod Frames
pub mod Journals
pub mod Heard
pub mod Said
pub mod Heads
pub mod Statements
