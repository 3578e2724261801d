pub mod CommandLemmas
pub mod DebugLemmas
pub mod EventLemmas
pub mod OnceLemmas
pub mod PlaceLemmas
pub mod ThreadLemmas
