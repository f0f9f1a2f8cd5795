pub mod Matched
pub mod Returns
