pub mod Notes
pub mod Meters
pub mod SmallNotes
pub mod Calls
