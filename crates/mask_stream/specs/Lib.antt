pub mod KeyStreams
pub mod ChaMaskTables
pub mod Ends
