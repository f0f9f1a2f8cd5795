pub mod Matches
pub mod Faults
pub mod Formatted
pub mod Parts
