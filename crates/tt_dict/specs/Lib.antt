pub mod Changing
pub mod DictLaws
pub mod Paths
pub mod Rows
pub mod Table
pub mod Telling
pub mod Variables
pub mod inside
