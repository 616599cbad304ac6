pub mod ReadingLemmas
pub mod SignLemmas
