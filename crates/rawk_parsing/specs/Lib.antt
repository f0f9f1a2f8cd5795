pub mod Refusals
pub mod Constant
pub mod Parser
pub mod Tables
pub mod Tokens
pub mod Steps
pub mod Turns
