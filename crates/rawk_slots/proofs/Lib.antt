pub mod Backs
pub mod Stacks
pub mod Groups
