pub mod Digits
pub mod Division
pub mod Powers
pub mod Reading
pub mod Trims
