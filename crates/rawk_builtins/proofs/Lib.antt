mod Rows
pub mod Parts
pub mod Places
mod Single
