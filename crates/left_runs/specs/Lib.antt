pub mod Left
pub mod LeftTiers
pub mod LeftLevels
pub mod LeftRests
pub mod LeftMachines
