pub mod Counts
pub mod Values
pub mod Drafts
pub mod Shorts
