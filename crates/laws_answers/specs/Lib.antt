pub mod Answered
pub mod Circles
pub mod Pure
