pub mod ComingWalks
pub mod MarkSteps
pub mod HeapSteps
pub mod LeavingSteps
pub mod LeastHeld
pub mod MissingSteps
pub mod GreatestMissing
pub mod IndexWalks
pub mod Equations
pub mod Writes
pub mod SumLaws
pub mod StartLaws
pub mod SoundLaws
pub mod Ranking
mod WordSteps
mod HoldsSteps
