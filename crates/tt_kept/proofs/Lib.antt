pub mod Following
mod Frequent
