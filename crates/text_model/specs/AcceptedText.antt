-- The line that tells of an accepted file.
use Rattle.std.specs.Prelude.{◌≡◌, ℕ, List, [], ◌∷◌, length, codes}
use Rattle.std.specs.Fmt.{decimal}
use Rattle.file_model.specs.Lists.{FileLists}
use Rattle.mesh_model.specs.Nets.{HasOpenPairs}
use Rattle.mesh_model.specs.Frames.{triangles_in_all}
use Rattle.mesh_model.specs.Accepted.{triangles_out_of}
use Rattle.text_model.specs.Lines.{line_of}

-- how many nodes and patches, how many triangles the patches have together, and how many open edges
unfoldable pub accepted_line : ℕ → ℕ → ℕ → ℕ → List ℕ
accepted_line nodes patches triangles open_edges = line_of (codes "accepted") (codes "nodes" ∷ decimal nodes ∷ codes "patches" ∷ decimal patches ∷ codes "triangles" ∷ decimal triangles ∷ codes "open" ∷ decimal open_edges ∷ [])

-- the text is the line of a file with this root; the open edges are those of the root's patches
pub record IsAcceptedText (file : FileLists) (root : ℕ) (text : List ℕ) : Type 0 where
  pub open_edges : ℕ
  pub counted : HasOpenPairs (triangles_out_of file root) open_edges
  pub is : text ≡ accepted_line (length file.index.nodes) (length file.index.fields) (triangles_in_all file.index.fields) open_edges

-- the text is an accepted line, of whatever file
pub record IsAcceptedLine (text : List ℕ) : Type 0 where
  pub nodes : ℕ
  pub patches : ℕ
  pub triangles : ℕ
  pub open_edges : ℕ
  pub is : text ≡ accepted_line nodes patches triangles open_edges
