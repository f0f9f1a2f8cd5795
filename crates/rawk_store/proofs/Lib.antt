pub mod Missing
pub mod Refilled
