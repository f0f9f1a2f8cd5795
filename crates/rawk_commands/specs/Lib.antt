pub mod Asked
pub mod Lines
pub mod Reading
pub mod Refusals
pub mod Texts
pub mod Words
