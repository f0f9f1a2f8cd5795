pub mod Figures
pub mod Formats
pub mod Grown
pub mod Plains
pub mod Rows
