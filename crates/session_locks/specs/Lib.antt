pub mod LockedPatches
pub mod Sessions
pub mod Passes
pub mod Taken
