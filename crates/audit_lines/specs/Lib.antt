pub mod Faults
pub mod Places
pub mod Readers
pub mod TextLaws
pub mod ReaderLaws
pub mod SequenceLaws
