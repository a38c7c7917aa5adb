pub mod MovedRows
pub mod MasksText
pub mod Twins
pub mod Answers
pub mod Worlds
pub mod Comparing
pub mod Ends
pub mod Statements
