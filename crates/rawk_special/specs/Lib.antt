pub mod Special
pub mod First
