pub mod ShownLemmas
pub mod GivenLemmas
pub mod RoundLemmas
pub mod SideLemmas
pub mod PickLemmas
