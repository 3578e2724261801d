pub mod Duties
pub mod Requests
pub mod Serving
