pub mod Meant
pub mod Nodes
pub mod Calls
pub mod InOrder
pub mod Settled
pub mod Orders
pub mod Globals
