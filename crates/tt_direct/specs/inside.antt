pub mod Choices
pub mod Coming
pub mod Needing
pub mod Commands
pub mod Loops
