pub mod BraceScan
pub mod GlobScan
pub mod Room
pub mod TextBytes
