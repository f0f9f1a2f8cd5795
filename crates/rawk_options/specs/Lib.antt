pub mod FirstValues
pub mod Words
