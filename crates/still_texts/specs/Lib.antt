pub mod Shown
pub mod Texts
pub mod Full
pub mod Sides
pub mod Picks
