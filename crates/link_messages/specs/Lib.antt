pub mod Fields
pub mod Spelled
pub mod Spells
pub mod Seen
