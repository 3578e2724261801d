mod ChangeLemmas
pub mod EndLemmas
pub mod FollowLemmas
mod FoundLemmas
pub mod FrameLemmas
pub mod HereLemmas
pub mod LinkLemmas
mod SlotLemmas
pub mod StandsLemmas
