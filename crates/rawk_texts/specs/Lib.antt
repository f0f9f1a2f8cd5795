pub mod Appends
pub mod Replacing
pub mod Pushes
