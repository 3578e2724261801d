mod Assigning
mod Changed
mod Climbing
mod Frequent
mod Marking
mod Setting
mod Unsetting
