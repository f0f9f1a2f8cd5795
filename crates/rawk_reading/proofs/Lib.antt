pub mod Quiets
pub mod Takings
pub mod Readings
pub mod Drawings
