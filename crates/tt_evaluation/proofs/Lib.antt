mod Agreement
pub mod Evaluations
pub mod MoreSteps
pub mod Stacks
