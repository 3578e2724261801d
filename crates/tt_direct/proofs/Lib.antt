pub mod Remains
pub mod Staying
pub mod Needing
pub mod Spending
pub mod Turning
