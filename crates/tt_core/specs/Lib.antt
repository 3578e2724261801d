pub mod Faithful
pub mod inside
pub mod Parts
pub mod Stage
pub mod Telling
