pub mod Commands
pub mod Held
pub mod Levels
pub mod Listed
pub mod Messages
pub mod Scalars
pub mod Spots
