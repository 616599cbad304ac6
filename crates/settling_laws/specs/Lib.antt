pub mod Stages
pub mod Underway
pub mod WeightLaws
pub mod EligibleLaws
pub mod ChangeLaws
pub mod FewTurns
pub mod Midway
