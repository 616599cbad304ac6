pub mod ServedSeats
pub mod ServedRounds
pub mod OneServed
pub mod JournalLoads
