pub mod Blocking
pub mod Calls
pub mod Lock
pub mod LockLaws
pub mod Table
