pub mod CutTokens
pub mod Cutting
pub mod Stacks
