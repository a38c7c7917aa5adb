pub mod Answers
pub mod Blind
pub mod Columns
pub mod Rows
