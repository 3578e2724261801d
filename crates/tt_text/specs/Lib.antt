pub mod Backslash
pub mod Braces
pub mod Characters
pub mod Glob
pub mod GlobFunction
pub mod inside
