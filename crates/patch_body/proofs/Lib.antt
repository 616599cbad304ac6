pub mod Units
pub mod Loops
pub mod Points
pub mod Axes
pub mod Triangles
pub mod Lists
pub mod Kept
pub mod Origins
