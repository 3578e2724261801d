pub mod Clocks
pub mod Keeping
pub mod Kept
pub mod Found
pub mod Told
