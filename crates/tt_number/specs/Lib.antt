pub mod Division
pub mod Messages
pub mod Numerals
pub mod Operators
