pub mod Spelling
pub mod Names
pub mod Putting
pub mod PartRows
pub mod PartFiles
pub mod SpelledParts
pub mod Whole
