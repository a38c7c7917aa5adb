pub mod Known
pub mod KnownParts
pub mod Words
pub mod Commands
pub mod Causes
pub mod Outcomes
pub mod Limits
