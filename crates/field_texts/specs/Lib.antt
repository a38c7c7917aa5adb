pub mod Numbers
pub mod Parts
pub mod Sets
pub mod Spelled
