pub mod TurnExamples
pub mod Turns
pub mod WorkedRuns
