mod Getting
mod Lists
mod Removing
mod Turning
mod Writing
