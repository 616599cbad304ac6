pub mod Loads
pub mod LoadLaws
pub mod PatchLists
pub mod ToldBodies
