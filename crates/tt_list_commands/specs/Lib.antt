pub mod Concatenating
pub mod Joining
pub mod Repeating
pub mod Reversing
pub mod SortFunction
pub mod Sorting
pub mod inside
