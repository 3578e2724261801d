pub mod Finding
pub mod Making
pub mod Mapping
pub mod Places
pub mod Splitting
pub mod Trimming
pub mod inside
