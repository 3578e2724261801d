pub mod LineLemmas
pub mod RunLemmas
pub mod PlaceLemmas
pub mod ReadLemmas
pub mod LawLemmas
