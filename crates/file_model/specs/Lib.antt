pub mod Numbers
pub mod Lists
pub mod Spelling
pub mod Rules
pub mod Reading
pub mod Answers
pub mod Tries
pub mod BodyFaults
