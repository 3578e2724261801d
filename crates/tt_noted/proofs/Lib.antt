pub mod Lists
pub mod Owners
pub mod Keeps
pub mod Passes
pub mod Gathering
pub mod Callers
