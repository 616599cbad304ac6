pub mod TriangleCounts
pub mod Keys
pub mod Borders
