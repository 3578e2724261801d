pub mod RaceText
pub mod WaitsText
