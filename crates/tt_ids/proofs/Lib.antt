pub mod CallerLemmas
pub mod DigitLemmas
mod Named
