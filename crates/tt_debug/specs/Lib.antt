pub mod Commands
pub mod DebugLaws
pub mod inside
pub mod Lines
pub mod Names
pub mod Session
pub mod Shown
