pub mod Blocking
pub mod Calls
pub mod ChannelLaws
pub mod Channels
pub mod Ends
pub mod Lines
