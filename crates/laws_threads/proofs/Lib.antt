pub mod Bounds
pub mod Numbers
pub mod Possible
pub mod Requests
pub mod Rows
pub mod Workers
