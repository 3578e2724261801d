pub mod Reading
pub mod Schedule
pub mod ScheduleText
pub mod inside
