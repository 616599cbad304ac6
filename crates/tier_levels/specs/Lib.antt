pub mod LevelViews
