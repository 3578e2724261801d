pub mod NextRequest
pub mod PauseExamples
pub mod Threads
