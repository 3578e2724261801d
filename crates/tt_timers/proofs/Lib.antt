pub mod AgreeLemmas
pub mod EntryLemmas
pub mod KeyLemmas
pub mod RangeLemmas
pub mod SortLemmas
pub mod TestLemmas
