pub mod Format
pub mod Grown
