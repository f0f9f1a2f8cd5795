pub mod Paths
pub mod NeedPaths
pub mod OpenLemmas
pub mod EreLemmas
pub mod SizeLemmas
pub mod WideLemmas
pub mod LastLemmas
