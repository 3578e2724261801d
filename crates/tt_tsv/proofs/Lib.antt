pub mod Changing
pub mod Filling
pub mod HeldLaw
pub mod ListAnswers
