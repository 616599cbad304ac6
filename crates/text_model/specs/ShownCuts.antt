-- Frames that show a cut of an accepted file.
use Rattle.std.specs.Prelude.{◌≡◌, ℕ, Bool, length}
use Rattle.file_model.specs.Lists.{FileLists}
use Rattle.mesh_model.specs.Graph.{nodes_where}
use Rattle.mesh_model.specs.Nets.{HaveOneNet}
use Rattle.mesh_model.specs.Frames.{frame_patches, frame_triangles, IsCut}
use Rattle.mesh_model.specs.Accepted.{triangles_out_of}
use Rattle.text_model.specs.FrameText.{Frame}

-- the frame is of the cut whose nodes are in the set, which has each node's parents: its patches lead out of
-- the set, and its edges are those of the root's patches, but for what cancels
pub record ShowsCut (file : FileLists) (root : ℕ) (in_set : ℕ → Bool) (frame : Frame) : Type 0 where
  pub cut : IsCut file.index.fields root in_set
  pub nodes : frame.cut ≡ nodes_where (length file.index.nodes) in_set
  pub patches : frame.patches ≡ frame_patches in_set file.index.fields
  pub triangles : frame.triangles ≡ frame_triangles in_set file.index.fields file.bodies
  pub boundary : HaveOneNet frame.triangles (triangles_out_of file root)
