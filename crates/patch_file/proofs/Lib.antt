pub mod Filling
pub mod Many
pub mod BodySizes
pub mod ReadUnits
pub mod HeaderRules
pub mod IndexReading
pub mod Appending
pub mod BodyUnits
