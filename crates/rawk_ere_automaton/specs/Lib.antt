pub mod Search
pub mod Table
