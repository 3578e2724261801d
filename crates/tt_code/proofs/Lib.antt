pub mod ExpressionLaw
pub mod Growing
pub mod Newest
pub mod Numbers
pub mod Operands
pub mod Staying
pub mod Stepping
pub mod WordLaw
