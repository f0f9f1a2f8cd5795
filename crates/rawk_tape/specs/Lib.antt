pub mod Records
pub mod Tapes
pub mod Lines
pub mod Paragraphs
pub mod Laws
