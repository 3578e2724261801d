pub mod MemoryNames
pub mod Reading
