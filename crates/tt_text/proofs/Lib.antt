pub mod BackslashLemmas
pub mod BraceLemmas
pub mod BraceSearch
pub mod CharacterLemmas
mod DefinitionExamples
pub mod GlobLaw
pub mod GlobLemmas
pub mod NarrowLemmas
pub mod RoomLemmas
