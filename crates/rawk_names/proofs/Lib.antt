pub mod Parts
pub mod Markings
pub mod Following
pub mod Misuses
