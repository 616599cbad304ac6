pub mod Resting
pub mod Rejoins
pub mod RestingLaws
pub mod JoinLaws
pub mod RejoinLaws
