pub mod TotalLaws
pub mod GatherLaws
pub mod EdgeLaws
pub mod ViewLaws
pub mod FindLaws
pub mod PlaceLaws
