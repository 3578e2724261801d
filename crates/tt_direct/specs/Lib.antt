pub mod Leading
pub mod inside
