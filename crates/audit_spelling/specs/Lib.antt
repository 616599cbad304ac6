pub mod Words
pub mod WordLaws
pub mod Spellings
pub mod NumberSpellings
pub mod TryLaws
pub mod FaultLaws
pub mod TurnLaws
pub mod Judging
