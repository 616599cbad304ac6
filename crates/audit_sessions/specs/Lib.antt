pub mod Summaries
pub mod Freed
pub mod Served
