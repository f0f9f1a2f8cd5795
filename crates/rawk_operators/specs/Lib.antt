pub mod Operators
pub mod Borrowed
pub mod Joined
pub mod Separations
