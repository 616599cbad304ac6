pub mod Scores
pub mod Order
pub mod Views
pub mod Tries
pub mod Rounds
pub mod Refiners
