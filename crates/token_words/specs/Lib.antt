pub mod Changes
pub mod Evictions
pub mod Sessions
pub mod PlainTokens
pub mod Batches
pub mod Tries
