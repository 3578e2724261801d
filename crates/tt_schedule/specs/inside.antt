pub mod LineReading
pub mod Runs
