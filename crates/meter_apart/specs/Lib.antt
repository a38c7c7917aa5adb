pub mod Journal
pub mod Parts
pub mod Keys
pub mod Replies
pub mod Kept
pub mod Meter
pub mod Replay
pub mod Statements
