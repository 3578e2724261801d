pub mod PoolAnswers
pub mod PoolExamples
pub mod PoolHappenings
pub mod PoolJobs
pub mod PoolWorkers
