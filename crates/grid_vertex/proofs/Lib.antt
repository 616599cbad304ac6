pub mod Distances
pub mod RootLemmas
