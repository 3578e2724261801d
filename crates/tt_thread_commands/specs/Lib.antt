pub mod Configuring
pub mod Sending
pub mod Threads
