pub mod Begun
pub mod Finished
pub mod Lawful
pub mod Places
pub mod Threads
