pub mod Sites
pub mod Kinds
