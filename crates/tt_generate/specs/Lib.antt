pub mod Workload
pub mod inside
