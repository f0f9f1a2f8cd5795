pub mod Decimals
pub mod Lines
pub mod Numbers
pub mod Possible
pub mod Shown
pub mod ShownNumbers
pub mod ShownPlaces
