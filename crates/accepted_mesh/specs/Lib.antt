pub mod MeshView
pub mod MeshLaws
