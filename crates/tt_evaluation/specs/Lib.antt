pub mod Evaluation
pub mod EvaluationLaws
pub mod Frames
pub mod Machines
pub mod Plans
pub mod inside
