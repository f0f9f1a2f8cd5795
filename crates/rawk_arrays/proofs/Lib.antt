pub mod Counting
pub mod Emptying
pub mod Finding
pub mod Heading
pub mod Packing
