pub mod Frame
pub mod LaidFrames
pub mod FramesBack
pub mod LaidKeys
pub mod KeysBack
pub mod FramesChanges
pub mod FramesLaws
pub mod KeptStacks
