-- The text of a frame.
use Rattle.std.specs.Prelude.{◌≡◌, ℕ, List, [], ◌∷◌, ◌++◌, length, map, codes}
use Rattle.std.specs.Fmt.{decimal, signed_decimal}
use Rattle.std.specs.List.{flat_map}
use Rattle.grid_vertex.specs.declared.points.Point.{Point}
use Rattle.grid_vertex.specs.declared.triangles.Triangle.{Triangle}
use Rattle.file_model.specs.declared.fields.Try.{Try}
use Rattle.mesh_model.specs.Nets.{HasOpenPairs}
use Rattle.text_model.specs.Lines.{line_of, decimals}

-- a frame: whose it is, its number, the nodes of its cut, its round's answers, its patches, and their
-- triangles in order
pub record Frame : Type 0 where
  pub session : ℕ
  pub number : ℕ
  pub cut : List ℕ
  pub tries : List Try
  pub patches : List ℕ
  pub triangles : List Triangle

-- session, number, and how many nodes, patches, triangles and open edges
unfoldable pub head_line : ℕ → Frame → List ℕ
head_line open_edges f = line_of (codes "frame") (decimal f.session ∷ decimal f.number ∷ codes "nodes" ∷ decimal (length f.cut) ∷ codes "patches" ∷ decimal (length f.patches) ∷ codes "triangles" ∷ decimal (length f.triangles) ∷ codes "open" ∷ decimal open_edges ∷ [])

-- the nodes of the cut
unfoldable pub cut_line : List ℕ → List ℕ
cut_line cut = line_of (codes "cut") (decimals cut)

-- a try: the patch, a colon and the epoch
unfoldable pub try_text : Try → List ℕ
try_text t = decimal t.patch ++ (58 ∷ decimal t.epoch)

-- the answers in the order of their tries
unfoldable pub tries_line : List Try → List ℕ
tries_line tries = line_of (codes "tries") (map try_text tries)

-- the patches
unfoldable pub patches_line : List ℕ → List ℕ
patches_line patches = line_of (codes "patches") (decimals patches)

-- x, y and z behind each other
abbrev pub point_words : Point → List (List ℕ)
point_words p = signed_decimal p.x ∷ signed_decimal p.y ∷ signed_decimal p.z ∷ []

-- the three corners
unfoldable pub triangle_line : Triangle → List ℕ
triangle_line t = line_of (signed_decimal t.a.x) (signed_decimal t.a.y ∷ signed_decimal t.a.z ∷ signed_decimal t.b.x ∷ signed_decimal t.b.y ∷ signed_decimal t.b.z ∷ signed_decimal t.c.x ∷ signed_decimal t.c.y ∷ signed_decimal t.c.z ∷ [])

-- the four lines before the triangles
unfoldable pub front_lines : ℕ → Frame → List ℕ
front_lines open_edges f = head_line open_edges f ++ (cut_line f.cut ++ (tries_line f.tries ++ patches_line f.patches))

-- the whole frame, of so many open edges
unfoldable pub frame_text : ℕ → Frame → List ℕ
frame_text open_edges f = front_lines open_edges f ++ flat_map triangle_line f.triangles

-- the text is the frame's, with the number of open edges of its triangles
pub record IsFrameText (frame : Frame) (text : List ℕ) : Type 0 where
  pub open_edges : ℕ
  pub counted : HasOpenPairs frame.triangles open_edges
  pub is : text ≡ frame_text open_edges frame
