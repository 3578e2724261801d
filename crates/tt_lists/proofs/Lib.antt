pub mod IndexLaw
pub mod Joining
pub mod Longer
pub mod Places
pub mod RunLaw
pub mod Runs
pub mod SplitLaw
pub mod Splits
