pub mod Flags
pub mod Rows
pub mod Tables
pub mod Usages
