pub mod CaughtLaws
pub mod WaitLaws
