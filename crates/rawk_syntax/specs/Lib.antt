pub mod Laid
pub mod Patterns
pub mod Texts
