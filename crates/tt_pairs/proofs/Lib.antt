pub mod PairLaws
pub mod Pairing
