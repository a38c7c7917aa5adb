pub mod Carried
pub mod HeadRuns
pub mod MeterRuns
pub mod Statements
