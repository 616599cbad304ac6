pub mod Entries
pub mod EndHeap
pub mod Searches
pub mod PairHeap
pub mod Laws
