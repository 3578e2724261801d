pub mod Blockers
pub mod PoolCalls
