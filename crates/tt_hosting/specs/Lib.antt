pub mod Hosting
pub mod inside
