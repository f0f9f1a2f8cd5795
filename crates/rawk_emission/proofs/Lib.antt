pub mod Trees
pub mod Patch
