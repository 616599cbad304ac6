pub mod Cores
pub mod CoreLaws
pub mod Ties
pub mod TieLaws
