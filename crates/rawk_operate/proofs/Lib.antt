pub mod Assigns
pub mod Faults
pub mod Subscripts
pub mod Visits
pub mod InPlace
