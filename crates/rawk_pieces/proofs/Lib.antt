pub mod Cuts
pub mod Masks
pub mod Newlines
pub mod Separated
pub mod Rows
pub mod Nths
