pub mod Building
pub mod Parsing
pub mod Scanning
