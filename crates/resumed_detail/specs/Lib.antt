pub mod SettledViews
pub mod RestLaws
pub mod FrameLines
pub mod DetailLaws
