pub mod SearchLemmas
pub mod TableLemmas
pub mod BuildLemmas
