pub mod Arrays
pub mod ArrayLaws
pub mod Blocking
pub mod Calls
pub mod Elements
pub mod Words
pub mod inside
