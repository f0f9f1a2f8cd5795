pub mod Expressions
pub mod Tests
pub mod Seams
