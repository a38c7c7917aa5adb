pub mod Blocks
pub mod Stream
pub mod Rows
pub mod Keys
