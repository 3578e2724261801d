pub mod Links
pub mod Variables
pub mod inside
