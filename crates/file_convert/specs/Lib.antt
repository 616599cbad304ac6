pub mod Converted
pub mod Spans
pub mod ConvertLaws
pub mod Held
pub mod Loaded
pub mod Whole
