pub mod Masks
pub mod Batches
pub mod EntryReads
