pub mod Lexemes
pub mod Gaps
pub mod Cuts
pub mod EreCuts
