pub mod Added
pub mod Open
pub mod NodeSums
pub mod Borders
pub mod AllNodeSums
pub mod Checkers
pub mod Refusals
pub mod Checks
