pub mod Fitting
pub mod Numbers
pub mod Outcomes
pub mod Replies
pub mod Usages
