pub mod Judging
pub mod Obeying
pub mod Refused
pub mod Answering
pub mod Stepping
pub mod TakenLines
pub mod Drives
pub mod DriveSteps
