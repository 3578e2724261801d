pub mod Steps
pub mod Known
pub mod Objects
pub mod Orders
pub mod RaceLaws
pub mod RaceLists
pub mod Touching
pub mod inside
