pub mod Operands
pub mod Added
pub mod Conditions
pub mod Readings
pub mod Jumps
