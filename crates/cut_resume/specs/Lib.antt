pub mod Cut
pub mod Heard
pub mod Left
pub mod Remaking
pub mod OnCourse
pub mod Order
pub mod Resumed
pub mod Statements
