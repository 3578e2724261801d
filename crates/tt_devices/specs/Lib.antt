pub mod Faults
pub mod Memory
pub mod Names
pub mod Streams
pub mod inside
