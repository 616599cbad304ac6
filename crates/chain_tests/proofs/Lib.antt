pub mod SceneLaws
