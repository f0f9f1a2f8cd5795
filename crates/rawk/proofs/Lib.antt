mod Stages
mod SoFar
mod DialogSoFar
mod LinesInMemory
mod Runs
mod Sessions
mod Joined
