mod Steps
mod Sound
mod SoundItems
mod Complete
mod CompleteItems
mod Depths
mod NoElse
