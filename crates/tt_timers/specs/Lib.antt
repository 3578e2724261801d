pub mod Pending
pub mod inside
