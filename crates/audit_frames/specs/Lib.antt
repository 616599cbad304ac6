pub mod Answers
pub mod WholeRounds
pub mod RisingAnswers
pub mod FrameLines
pub mod FrameLaws
