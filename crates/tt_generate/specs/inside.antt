pub mod JobLines
