pub mod Flats
pub mod Saved
mod Parts
