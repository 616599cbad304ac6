-- The one spelling of a patch file.
use Rattle.std.specs.Prelude.{ℕ, ◌==◌, List, [], ◌∷◌, ◌++◌, length, map, ℤ, pos, ◌-ℤ◌, unsigned_abs, if◌then◌else◌}
use Rattle.std.specs.List.{fold, flat_map}
use Rattle.std.specs.Int.{int_min}
use Rattle.grid_vertex.specs.declared.points.Point.{Point}
use Rattle.file_model.specs.declared.fields.Node.{Node}
use Rattle.file_model.specs.declared.fields.PatchField.{PatchField}
use Rattle.file_model.specs.Numbers.{number_text, signed_text}
use Rattle.file_model.specs.Lists.{Corners, BodyLists, IndexLists, FileLists}

-- `BMTG`
abbrev pub magic : List ℕ
magic = 66 ∷ 77 ∷ 84 ∷ 71 ∷ []

-- x, y and z
unfoldable pub point_text : Point → List ℕ
point_text p = signed_text p.x ++ (signed_text p.y ++ signed_text p.z)

-- centre, radius and error
unfoldable pub node_text : Node → List ℕ
node_text n = point_text n.ball.centre ++ (number_text 4 n.ball.radius ++ number_text 4 n.error)

-- tail, head, number of points and number of triangles
unfoldable pub field_text : PatchField → List ℕ
field_text f = number_text 4 f.tail ++ (number_text 4 f.head ++ (number_text 2 f.points ++ number_text 2 f.triangles))

-- the places of the three corners
unfoldable pub corners_text : Corners → List ℕ
corners_text t = number_text 2 t.a ++ (number_text 2 t.b ++ number_text 2 t.c)

-- the least of the numbers
abbrev pub least : List ℤ → ℤ
least [] = pos 0
least (z ∷ zs) = fold int_min z zs

-- the least coordinates of the points
unfoldable pub origin_of : List Point → Point
origin_of points = record { x = least (map (λ (p : Point). p.x) points); y = least (map (λ (p : Point). p.y) points); z = least (map (λ (p : Point). p.z) points) }

-- how far a point lies past the origin on each axis
unfoldable pub offset_text : Point → Point → List ℕ
offset_text origin p = number_text 2 (unsigned_abs (p.x -ℤ origin.x)) ++ (number_text 2 (unsigned_abs (p.y -ℤ origin.y)) ++ number_text 2 (unsigned_abs (p.z -ℤ origin.z)))

-- the points of a body: in version 1 each by itself, in version 2 their least coordinates and each
-- point's offset from these
unfoldable pub points_text : ℕ → List Point → List ℕ
points_text version points = if version == 2 then point_text (origin_of points) ++ flat_map (offset_text (origin_of points)) points else flat_map point_text points

-- the points, and the corners of the triangles
unfoldable pub body_text : ℕ → BodyLists → List ℕ
body_text version body = points_text version body.points ++ flat_map corners_text body.corners

-- the magic, the version, two bytes 0, and the numbers of nodes and patches
unfoldable pub header_text : IndexLists → List ℕ
header_text index = magic ++ (number_text 2 index.version ++ (number_text 2 0 ++ (number_text 4 (length index.nodes) ++ number_text 4 (length index.fields))))

-- the header, the nodes and the patch fields
unfoldable pub index_text : IndexLists → List ℕ
index_text index = header_text index ++ (flat_map node_text index.nodes ++ flat_map field_text index.fields)

-- the whole file
unfoldable pub file_text : FileLists → List ℕ
file_text file = index_text file.index ++ flat_map (body_text file.index.version) file.bodies
