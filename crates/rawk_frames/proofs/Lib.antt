pub mod Nested
pub mod Loops
