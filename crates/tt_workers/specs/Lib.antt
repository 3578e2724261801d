pub mod Ends
pub mod inside
pub mod Ran
