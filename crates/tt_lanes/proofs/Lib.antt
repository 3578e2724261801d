pub mod LaneLemmas
pub mod LoopLemmas
