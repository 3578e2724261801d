pub mod Bits
pub mod Marking
pub mod Passing
pub mod Standing
pub mod WaitLawProofs
pub mod Walking
