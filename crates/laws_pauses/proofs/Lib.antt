pub mod Asking
pub mod Bounds
pub mod Events
pub mod Leads
pub mod Plans
pub mod Steps
pub mod Threads
