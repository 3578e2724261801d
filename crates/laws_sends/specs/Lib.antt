pub mod SendExamples
pub mod Sends
