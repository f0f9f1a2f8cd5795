pub mod Fields
pub mod Masks
pub mod Pieces
pub mod Nth
pub mod Separators
pub mod Laws
