pub mod Applications
pub mod Settlements
