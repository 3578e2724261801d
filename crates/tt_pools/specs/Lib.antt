pub mod Calls
pub mod Jobs
pub mod Pools
pub mod inside
