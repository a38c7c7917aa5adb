pub mod Words
pub mod Sets
pub mod Cancellation
pub mod Masks
