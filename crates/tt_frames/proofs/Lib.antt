pub mod Fronts
pub mod Others
