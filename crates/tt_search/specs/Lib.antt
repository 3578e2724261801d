pub mod Searched
pub mod inside
