pub mod Arrivals
pub mod Closings
pub mod Undos
