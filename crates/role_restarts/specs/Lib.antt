pub mod Restarts
pub mod HeadEndRestarts
pub mod MeterRestarts
pub mod Statements
