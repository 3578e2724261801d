pub mod inside
pub mod Report
