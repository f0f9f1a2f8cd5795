pub mod Repeated
pub mod CodeLemmas
pub mod KeptLemmas
pub mod Walks
