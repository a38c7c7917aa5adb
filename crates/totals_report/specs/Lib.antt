pub mod Cutting
pub mod Counts
pub mod Texts
pub mod Rows
pub mod Reading
pub mod Faults
pub mod Reports
pub mod Books
