pub mod Links
pub mod KeyLemmas
mod SeriesLaws
