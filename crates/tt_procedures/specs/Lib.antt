pub mod Calling
pub mod Messages
pub mod Parameters
pub mod Procedures
