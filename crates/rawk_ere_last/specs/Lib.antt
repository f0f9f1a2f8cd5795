pub mod Shapes
pub mod ShapeLemmas
