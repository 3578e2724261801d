pub mod OneRequest
pub mod Steps
pub mod RunActionLemmas
pub mod WaitingLists
