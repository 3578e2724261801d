pub mod ThreadCount
pub mod ThreadExamples
