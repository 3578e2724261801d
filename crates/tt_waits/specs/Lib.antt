pub mod Walks
pub mod WaitLaws
pub mod Waiting
pub mod inside
