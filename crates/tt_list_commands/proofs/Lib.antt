pub mod Equals
pub mod Keeping
pub mod Orders
pub mod Repeats
pub mod SortLaw
