pub mod PartLemmas
pub mod PatternLemmas
pub mod BracketLemmas
pub mod IntervalLemmas
