pub mod Asked
pub mod CodeValues
pub mod Splitting
pub mod WordLaws
pub mod inside
