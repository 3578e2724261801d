pub mod Digits
pub mod Ids
pub mod Moments
pub mod ThreadNumbers
pub mod inside
