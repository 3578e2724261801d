pub mod Crew
pub mod Standing
