pub mod Loops
pub mod PairLaws
pub mod Pairs
pub mod Reading
pub mod inside
