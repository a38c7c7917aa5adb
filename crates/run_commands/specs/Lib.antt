pub mod RunEnds
pub mod LoadEnds
pub mod RegisterEnds
pub mod ResumeEnds
