pub mod Rays
pub mod Bounds
pub mod Meetings
pub mod HitLaws
pub mod Picks
pub mod Walks
pub mod OnePick
