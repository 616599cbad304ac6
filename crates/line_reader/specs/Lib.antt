pub mod Reads
pub mod LineSeen
pub mod Bytes
pub mod Lines
