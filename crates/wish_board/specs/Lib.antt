pub mod Maxima
pub mod PostedSlots
pub mod Boards
pub mod BoardView
pub mod BoardLaws
