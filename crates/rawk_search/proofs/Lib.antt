pub mod SearchLemmas
pub mod SetLemmas
pub mod ShortLemmas
pub mod TokenLemmas
pub mod ExpressionLemmas
pub mod CutLemmas
pub mod CutsLemmas
pub mod Rows
