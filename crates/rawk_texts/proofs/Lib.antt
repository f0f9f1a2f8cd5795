pub mod Lines
pub mod Pushed
pub mod Prints
pub mod Replaces
pub mod Splits
