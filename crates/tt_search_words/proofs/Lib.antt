pub mod CutLemmas
pub mod GrammarLemmas
pub mod OneLemmas
pub mod ReadingLemmas
pub mod StepLemmas
pub mod ValueLemmas
