pub mod ScriptLines
pub mod Orders
pub mod Histories
pub mod OrderFaults
pub mod Allowed
pub mod Scripts
pub mod ScriptLaws
