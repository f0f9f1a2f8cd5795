pub mod Inputs
pub mod Counts
pub mod Sources
