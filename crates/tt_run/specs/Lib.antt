pub mod Acting
pub mod Desk
