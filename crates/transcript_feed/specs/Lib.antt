pub mod Sinks
pub mod Feeds
pub mod Kept
