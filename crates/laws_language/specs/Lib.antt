pub mod OneAnswer
pub mod ScriptSteps
