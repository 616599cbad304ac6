pub mod ServedFrames
pub mod ServedLines
pub mod FittingFaults
pub mod Journals
pub mod Openings
pub mod Lefts
pub mod ServeTexts
