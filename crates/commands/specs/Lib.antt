pub mod Outside
pub mod Ends
pub mod Accepted
pub mod Promise
pub mod Cupboard
