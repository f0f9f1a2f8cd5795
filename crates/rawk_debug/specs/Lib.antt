pub mod Moves
pub mod Commands
pub mod Sessions
pub mod Answers
pub mod Transcript
pub mod Runs
pub mod Laws
