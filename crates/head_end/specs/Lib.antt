pub mod Journal
pub mod Replies
pub mod Kept
pub mod Head
pub mod Lines
pub mod Replay
pub mod Statements
