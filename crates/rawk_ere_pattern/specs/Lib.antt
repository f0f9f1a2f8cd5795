pub mod Grammar
pub mod Pattern
pub mod Reading
pub mod PatternOf
pub mod ReadingLemmas
pub mod ByteSetLemmas
pub mod ScanLemmas
pub mod PatternOfLemmas
