pub mod Travel
pub mod Gets
pub mod Asking
