pub mod Candidates
pub mod RoundRules
pub mod GrowingCuts
pub mod RefinementStates
pub mod CutLists
pub mod Hands
pub mod Locks
pub mod Refiners
