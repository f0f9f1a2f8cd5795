pub mod Points
pub mod Arrival
pub mod Leading
pub mod Closing
pub mod Written
