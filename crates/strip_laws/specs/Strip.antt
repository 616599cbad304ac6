-- The strip of c columns: a row of c squares of two triangles. Each square can be cut in four round its
-- middle, and then each edge between two squares in two. Edges count from 0 on the left to c on the right.
use Rattle.std.specs.Prelude.{ℕ, ◌+◌, ◌-◌, ◌*◌, ◌%◌, ◌==◌, List, [], ◌∷◌, ◌++◌, length, map, pos, if◌then◌else◌}
use Rattle.std.specs.List.{flat_map, range_with_len}
use Rattle.grid_vertex.specs.declared.points.Point.{Point}
use Rattle.file_model.specs.declared.fields.Node.{Node}
use Rattle.file_model.specs.declared.fields.PatchField.{PatchField}
use Rattle.file_model.specs.Lists.{Corners, BodyLists, FileLists}

-- ---- points

abbrev pub flat : ℕ → ℕ → Point
flat x y = record { x = pos x; y = pos y; z = pos 0 }

-- the lower end of an edge
abbrev pub low : ℕ → Point
low k = flat (4 * k) 0

-- its upper end
abbrev pub high : ℕ → Point
high k = flat (4 * k) 4

-- its middle
abbrev pub halfway : ℕ → Point
halfway k = flat (4 * k) 2

-- the middle of a square
abbrev pub middle : ℕ → Point
middle i = flat (4 * i + 2) 2

-- ---- nodes

abbrev pub node_at : Point → ℕ → ℕ → Node
node_at centre radius error = record { ball = record { centre = centre; radius = radius }; error = error }

abbrev pub root_node : ℕ → Node
root_node c = node_at (flat (2 * c) 2) (2 * c + 5) 128

abbrev pub square_node : ℕ → Node
square_node i = node_at (middle i) 7 (if i % 2 == 0 then 64 else 48)

abbrev pub edge_node : ℕ → Node
edge_node k = node_at (halfway k) 5 16

abbrev pub sink_node : Node
sink_node = node_at (flat 0 0) 0 0

-- the root, the squares, the edges between two squares, and the sink
unfoldable pub strip_nodes : ℕ → List Node
strip_nodes c = root_node c ∷ (map square_node (range_with_len 0 c) ++ (map edge_node (range_with_len 1 (c - 1)) ++ sink_node ∷ []))

-- the node of a square
abbrev pub square_at : ℕ → ℕ
square_at i = 1 + i

-- the node of an edge: the sink for the strip's two ends
abbrev pub edge_at : ℕ → ℕ → ℕ
edge_at c k = if k == 0 then 2 * c else c + k

-- ---- patches

-- a patch: its field and its body
pub record StripPatch : Type 0 where
  pub field : PatchField
  pub body : BodyLists

abbrev pub corners : ℕ → ℕ → ℕ → Corners
corners a b c = record { a = a; b = b; c = c }

abbrev pub patch : ℕ → ℕ → BodyLists → StripPatch
patch tail head lists = record { field = record { tail = tail; head = head; points = length lists.points; triangles = length lists.corners }; body = lists }

-- a square's four corners, and its two triangles
abbrev pub square_body : ℕ → BodyLists
square_body i = record {
  points = low i ∷ low (i + 1) ∷ high (i + 1) ∷ high i ∷ [];
  corners = corners 0 1 2 ∷ corners 0 2 3 ∷ [];
}

-- the triangles from a square's left and bottom to its middle
abbrev pub left_body : ℕ → BodyLists
left_body i = record {
  points = low i ∷ low (i + 1) ∷ high i ∷ middle i ∷ [];
  corners = corners 2 0 3 ∷ corners 0 1 3 ∷ [];
}

-- those from its right and top
abbrev pub right_body : ℕ → BodyLists
right_body i = record {
  points = low (i + 1) ∷ high (i + 1) ∷ high i ∷ middle i ∷ [];
  corners = corners 0 1 3 ∷ corners 1 2 3 ∷ [];
}

-- what lies round an edge that is cut in two: it parts squares h and i, and is edge i
abbrev pub round_body : ℕ → ℕ → BodyLists
round_body h i = record {
  points = low i ∷ high i ∷ high h ∷ middle h ∷ low (i + 1) ∷ middle i ∷ halfway i ∷ [];
  corners = corners 0 6 3 ∷ corners 6 1 3 ∷ corners 1 2 3 ∷ corners 1 6 5 ∷ corners 6 0 5 ∷ corners 0 4 5 ∷ [];
}

abbrev pub square : ℕ → StripPatch
square i = patch 0 (square_at i) (square_body i)

abbrev pub left_half : ℕ → ℕ → StripPatch
left_half c i = patch (square_at i) (edge_at c i) (left_body i)

abbrev pub right_half : ℕ → ℕ → StripPatch
right_half c i = patch (square_at i) (edge_at c (i + 1)) (right_body i)

abbrev pub halves : ℕ → ℕ → List StripPatch
halves c i = left_half c i ∷ right_half c i ∷ []

-- edge j + 1, which parts squares j and j + 1
abbrev pub opened : ℕ → ℕ → StripPatch
opened c j = patch (c + (j + 1)) (2 * c) (round_body j (j + 1))

-- the squares, their halves by square, and the opened edges
unfoldable pub strip_patches : ℕ → List StripPatch
strip_patches c = map square (range_with_len 0 c) ++ (flat_map (halves c) (range_with_len 0 c) ++ map (opened c) (range_with_len 0 (c - 1)))

-- ---- the file

abbrev pub fields_of : List StripPatch → List PatchField
fields_of ps = map (λ (p : StripPatch). p.field) ps

abbrev pub bodies_of : List StripPatch → List BodyLists
bodies_of ps = map (λ (p : StripPatch). p.body) ps

-- the strip of c columns in a version
abbrev pub strip_file : ℕ → ℕ → FileLists
strip_file version c = record {
  index = record { version = version; nodes = strip_nodes c; fields = fields_of (strip_patches c) };
  bodies = bodies_of (strip_patches c);
}
