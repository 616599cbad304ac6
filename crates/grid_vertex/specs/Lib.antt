pub mod Points
pub mod Balls
pub mod Roots
pub mod Triangles
