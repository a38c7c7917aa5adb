pub mod Came
pub mod TickFrames
pub mod Hearers
pub mod Hidden
pub mod Meters
pub mod GroupMeters
pub mod Sent
