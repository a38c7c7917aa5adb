pub mod RunEndings
pub mod LoadEndings
pub mod RegisterEndings
pub mod ResumeEndings
