pub mod MachineLaws
pub mod Machine
pub mod RunActions
pub mod Waiting
pub mod WaitingLaws
