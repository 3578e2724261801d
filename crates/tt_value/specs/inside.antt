pub mod KeptText
pub mod Listed
pub mod Paired
pub mod Spellings
