pub mod HalfSpaces
pub mod Behind
pub mod Planes
pub mod Culling
pub mod CulledCuts
pub mod NodeBalls
