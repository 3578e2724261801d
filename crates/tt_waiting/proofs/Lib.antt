pub mod WaitingLemmas
