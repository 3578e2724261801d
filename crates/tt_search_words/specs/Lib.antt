pub mod Asked
pub mod CodeValues
pub mod Parts
pub mod WordLaws
pub mod inside
