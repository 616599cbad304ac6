pub mod LastRounds
pub mod LastRoundLaws
