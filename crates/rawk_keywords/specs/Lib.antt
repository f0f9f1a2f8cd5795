pub mod Builtins
pub mod Classes
pub mod Keywords
pub mod Name
