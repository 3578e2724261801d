pub mod DigitRuns
pub mod Layouts
pub mod Limits
pub mod Parts
pub mod Steps
