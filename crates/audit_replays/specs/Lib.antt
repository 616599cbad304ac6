pub mod TierBooks
pub mod EntryPatches
pub mod ReplayLaws
