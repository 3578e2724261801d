pub mod Lawful
pub mod Serving
