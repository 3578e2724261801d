pub mod Asking
pub mod Ended
