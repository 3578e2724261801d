pub mod VariableEvents
pub mod VariableExamples
pub mod VariableNames
