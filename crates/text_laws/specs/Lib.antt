pub mod FrameTexts
pub mod Meshes
pub mod Rounds
pub mod Texts
pub mod Picks
pub mod Plays
