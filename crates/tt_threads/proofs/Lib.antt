mod Found
mod Living
mod Turns
