pub mod Lines
pub mod Kinds
pub mod Extras
pub mod SmallLines
pub mod Stamps
pub mod Stretches
pub mod Drafts
