pub mod Parts
pub mod Ending
pub mod Appending
pub mod Frames
pub mod PointTexts
