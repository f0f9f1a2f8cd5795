pub mod Sets
pub mod Ways
pub mod WalkLemmas
