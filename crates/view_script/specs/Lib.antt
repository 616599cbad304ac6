pub mod Stages
pub mod Answers
pub mod Readings
pub mod AddedLines
pub mod ScriptSeen
