pub mod Places
pub mod Rosters
pub mod Rounds
pub mod Slices
pub mod Turns
pub mod Workers
pub mod World
