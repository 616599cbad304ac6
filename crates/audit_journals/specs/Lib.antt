pub mod Journals
pub mod NeedLaws
pub mod EntryLaws
pub mod JournalLaws
