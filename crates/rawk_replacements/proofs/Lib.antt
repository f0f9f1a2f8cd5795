pub mod Letters
pub mod Cutting
