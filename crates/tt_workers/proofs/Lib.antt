pub mod Crossing
pub mod Lists
pub mod RoundLemmas
pub mod RunLemmas
pub mod TieLemmas
pub mod TurnLemmas
pub mod WhereLemmas
pub mod WorkerLemmas
