pub mod Faults
pub mod Scans
pub mod Values
