pub mod Searches
pub mod Refused
pub mod Undone
mod Backward
mod Shown
