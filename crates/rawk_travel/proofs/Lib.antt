pub mod Askings
pub mod Travels
pub mod Turns
pub mod Calls
pub mod Oks
pub mod Leadings
