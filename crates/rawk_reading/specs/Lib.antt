pub mod Reading
pub mod Plain
pub mod Drawing
