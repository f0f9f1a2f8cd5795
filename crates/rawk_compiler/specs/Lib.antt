pub mod Code
pub mod Written
