pub mod Positions
pub mod Watching
pub mod Works
pub mod Activations
pub mod Naming
pub mod Texts
