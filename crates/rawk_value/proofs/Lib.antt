pub mod Fronts
pub mod Powers
pub mod Texts
