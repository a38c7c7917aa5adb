pub mod Courses
pub mod Steps
pub mod Losses
pub mod Statements
pub mod Rows
