-- Any two frames of an accepted mesh have one net and one list of open edges.
use Rattle.std.proofs.Common.{◌≡◌, ℕ, Bool, List, sym, ◌∙◌}
use Rattle.grid_vertex.specs.declared.triangles.Triangle.{Triangle}
use Rattle.file_model.specs.Lists.{FileLists}
use Rattle.file_model.specs.Rules.{IsIndex}
use Rattle.mesh_model.specs.Nets.{Pair, AreOpen, HaveOneNet}
use Rattle.mesh_model.specs.Frames.{frame_triangles, IsCut}
use Rattle.mesh_model.specs.Accepted.{IsAccepted}
use Rattle.mesh_laws.specs.Boundary.{boundary}
use Rattle.mesh_laws.specs.OpenEdges.{open_of_one_net, open_is_one}

-- the triangles of a set's frame
abbrev pub frame_of_set : FileLists → (ℕ → Bool) → List Triangle
frame_of_set file in_set = frame_triangles in_set file.index.fields file.bodies

pub frames_one_net : (file : FileLists) (root : ℕ) (here there : ℕ → Bool) → IsIndex file.index → IsAccepted file root → IsCut file.index.fields root here → IsCut file.index.fields root there → HaveOneNet (frame_of_set file here) (frame_of_set file there)
frames_one_net file root here there rules accepted cut cut' a b = boundary file root here rules accepted cut a b ∙ sym (boundary file root there rules accepted cut' a b)

pub frames_one_open : (file : FileLists) (root : ℕ) (here there : ℕ → Bool) (ps qs : List Pair) → IsIndex file.index → IsAccepted file root → IsCut file.index.fields root here → IsCut file.index.fields root there → AreOpen (frame_of_set file here) ps → AreOpen (frame_of_set file there) qs → ps ≡ qs
frames_one_open file root here there ps qs rules accepted cut cut' h k =
    open_is_one (frame_of_set file there) ps qs (open_of_one_net (frame_of_set file here) (frame_of_set file there) ps (frames_one_net file root here there rules accepted cut cut') h) k
