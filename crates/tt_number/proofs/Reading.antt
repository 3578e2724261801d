pub mod Decimal
pub mod Floats
pub mod Law
pub mod Numbers
pub mod Signs
pub mod Trimming
