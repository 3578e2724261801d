pub mod FilesLemmas
pub mod NameLemmas
pub mod StreamLemmas
