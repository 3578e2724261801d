pub mod Dictionaries
pub mod Growing
pub mod Reading
pub mod inside
