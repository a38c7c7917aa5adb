pub mod Drawing
pub mod Made
pub mod MadeFiles
pub mod Makes
pub mod Sizes
pub mod Writing
