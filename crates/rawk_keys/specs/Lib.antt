pub mod Nearest
pub mod Linked
pub mod ArrayKey
pub mod Hash
pub mod KeysLaid
pub mod Found
pub mod Series
pub mod Notes
