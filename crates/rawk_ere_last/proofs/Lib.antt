pub mod ShapeOf
pub mod FindLemmas
