pub mod Chains
pub mod Added
pub mod Jumps
