pub mod Lanes
pub mod Filters
