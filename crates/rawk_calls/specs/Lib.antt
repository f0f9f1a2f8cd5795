pub mod Activations
