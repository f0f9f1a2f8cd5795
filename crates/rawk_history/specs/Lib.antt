pub mod Steps
pub mod Keeping
pub mod Saving
pub mod Flat
pub mod Parts
