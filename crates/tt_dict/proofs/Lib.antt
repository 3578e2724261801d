pub mod DictLaws
pub mod Inwards
pub mod Merging
