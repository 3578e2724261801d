pub mod Leading
pub mod Marks
pub mod Places
