pub mod Answering
pub mod Asking
pub mod Beginning
pub mod Commands
pub mod Leading
