pub mod Fields
pub mod Formatting
pub mod Printing
pub mod Specifiers
pub mod inside
