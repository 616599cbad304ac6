pub mod KeptLevels
