pub mod Branches
pub mod Choices
pub mod Dictionaries
pub mod Endings
pub mod Evaluating
pub mod Refusals
pub mod Table
pub mod Turns
