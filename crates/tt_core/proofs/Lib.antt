pub mod ActionLemmas
pub mod CrewLemmas
pub mod PlaceLemmas
pub mod StandLemmas
pub mod StepLemmas
pub mod TellLemmas
