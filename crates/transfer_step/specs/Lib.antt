pub mod Fetches
pub mod Supplies
pub mod TurnWords
