pub mod Shown
pub mod FieldRefs
pub mod Changed
pub mod Changes
pub mod Drafts
pub mod ShortPieces
pub mod Helds
pub mod Uncuts
