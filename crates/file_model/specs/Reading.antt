-- Reading a patch file from left to right, with the first fault.
use Rattle.std.specs.Prelude.{ℕ, zero, suc, ◌+◌, ◌*◌, ◌==◌, ◌+ℤ◌, pos, not, List, [], ◌∷◌, length, take, drop, Result, Ok, Err, nat_eq, nat_lt, nat_le, if◌then◌else◌}
use Rattle.std.specs.List.{list_any, starts_with}
use Rattle.std.specs.Ordering.{int_eq}
use Rattle.grid_vertex.specs.declared.points.Point.{Point}
use Rattle.grid_vertex.specs.Points.{is_in_grid}
use Rattle.grid_vertex.specs.Triangles.{is_flat_triangle}
use Rattle.file_model.specs.declared.fields.Node.{Node}
use Rattle.file_model.specs.declared.fields.PatchField.{PatchField}
use Rattle.file_model.specs.declared.faults.FileFault.{FileFault}
use Rattle.file_model.specs.declared.faults.FileFault.TheVariants.{Magic, Version, NotZero, NodeCount, PatchCount, Truncated, Trailing, NodeOutOfGrid, ArcEnd, BodyCount, PointOutOfGrid, CornerIndex, Flat, Loose}
use Rattle.file_model.specs.Numbers.{number_in, signed_in}
use Rattle.file_model.specs.Lists.{Corners, BodyLists, IndexLists, FileLists, triangle_of, body_size, bodies_size, bodies_offset}
use Rattle.file_model.specs.Spelling.{magic}
use Rattle.file_model.specs.Rules.{is_version, is_node_count, is_patch_count, is_node, has_ends, has_counts}

-- one step of reading after another; the first fault ends it
infixl 10 ◌>>=◌
abbrev pub ◌>>=◌ : {A B : Type 0} → Result A FileFault → (A → Result B FileFault) → Result B FileFault
(Ok x) >>= f = f x
(Err fault) >>= f = Err fault

-- n units one after the other, the first of number k; each gives its value and the bytes behind it
unfoldable pub many_at : {A : Type 0} → (ℕ → List ℕ → Result (A × List ℕ) FileFault) → ℕ → ℕ → List ℕ → Result (List A × List ℕ) FileFault
many_at unit zero k bytes = Ok ([], bytes)
many_at unit (suc n) k bytes = unit k bytes >>= λ first. many_at unit n (k + 1) first.1 >>= λ others. Ok (first.0 ∷ others.0, others.1)

-- the point in the first 12 bytes
abbrev pub point_in : List ℕ → Point
point_in bytes = record { x = signed_in bytes; y = signed_in (drop 4 bytes); z = signed_in (drop 8 bytes) }

-- the node in the first 20 bytes
abbrev pub node_in : List ℕ → Node
node_in bytes = record { ball = record { centre = point_in bytes; radius = number_in 4 (drop 12 bytes) }; error = number_in 4 (drop 16 bytes) }

-- the patch field in the first 12 bytes
abbrev pub field_in : List ℕ → PatchField
field_in bytes = record { tail = number_in 4 bytes; head = number_in 4 (drop 4 bytes); points = number_in 2 (drop 8 bytes); triangles = number_in 2 (drop 10 bytes) }

-- the corners in the first 6 bytes
abbrev pub corners_in : List ℕ → Corners
corners_in bytes = record { a = number_in 2 bytes; b = number_in 2 (drop 2 bytes); c = number_in 2 (drop 4 bytes) }

-- the point that lies the offsets in the first 6 bytes past the origin
abbrev pub shifted_in : Point → List ℕ → Point
shifted_in origin bytes = record { x = origin.x +ℤ pos (number_in 2 bytes); y = origin.y +ℤ pos (number_in 2 (drop 2 bytes)); z = origin.z +ℤ pos (number_in 2 (drop 4 bytes)) }

-- what the header says
pub record Header : Type 0 where
  pub version : ℕ
  pub nodes : ℕ
  pub patches : ℕ

-- the header; the bytes are the file's first 16, or all where there are fewer
unfoldable pub header_in : List ℕ → Result Header FileFault
header_in bytes =
    if nat_lt (length bytes) 4 then Err (Truncated (length bytes)) else
    if not (starts_with nat_eq bytes magic) then Err Magic else
    if nat_lt (length bytes) 6 then Err (Truncated (length bytes)) else
    if not (is_version (number_in 2 (drop 4 bytes))) then Err (Version (number_in 2 (drop 4 bytes))) else
    if nat_lt (length bytes) 8 then Err (Truncated (length bytes)) else
    if not (number_in 2 (drop 6 bytes) == 0) then Err NotZero else
    if nat_lt (length bytes) 12 then Err (Truncated (length bytes)) else
    if not (is_node_count (number_in 4 (drop 8 bytes))) then Err (NodeCount (number_in 4 (drop 8 bytes))) else
    if nat_lt (length bytes) 16 then Err (Truncated (length bytes)) else
    if not (is_patch_count (number_in 4 (drop 12 bytes))) then Err (PatchCount (number_in 4 (drop 12 bytes))) else
    Ok (record { version = number_in 2 (drop 4 bytes); nodes = number_in 4 (drop 8 bytes); patches = number_in 4 (drop 12 bytes) })

-- node v, of a file that ends at `end` where it ends too early
unfoldable pub node_at : ℕ → ℕ → List ℕ → Result (Node × List ℕ) FileFault
node_at end v bytes =
    if nat_lt (length bytes) 20 then Err (Truncated end) else
    if not (is_node (node_in bytes)) then Err (NodeOutOfGrid v) else
    Ok (node_in bytes, drop 20 bytes)

-- patch field p
unfoldable pub field_at : ℕ → ℕ → ℕ → List ℕ → Result (PatchField × List ℕ) FileFault
field_at nodes end p bytes =
    if nat_lt (length bytes) 12 then Err (Truncated end) else
    if not (has_ends nodes (field_in bytes)) then Err (ArcEnd p) else
    if not (has_counts (field_in bytes)) then Err (BodyCount p) else
    Ok (field_in bytes, drop 12 bytes)

-- how many bytes the nodes and the patch fields have
abbrev pub fields_size : Header → ℕ
fields_size header = 20 * header.nodes + 12 * header.patches

-- the nodes and the patch fields; the bytes are so many from place 16, or all that are left
unfoldable pub fields_in : Header → List ℕ → Result IndexLists FileFault
fields_in header bytes =
    many_at (node_at (16 + length bytes)) header.nodes 0 bytes >>= λ nodes.
    many_at (field_at header.nodes (16 + length bytes)) header.patches 0 nodes.1 >>= λ fields.
    Ok (record { version = header.version; nodes = nodes.0; fields = fields.0 })

-- all that stands before the bodies
unfoldable pub index_in : List ℕ → Result IndexLists FileFault
index_in bytes =
    header_in (take 16 bytes) >>= λ header.
    fields_in header (take (fields_size header) (drop 16 bytes))

-- point k of a body of version 1
unfoldable pub point_at : ℕ → ℕ → ℕ → List ℕ → Result (Point × List ℕ) FileFault
point_at patch end k bytes =
    if nat_lt (length bytes) 12 then Err (Truncated end) else
    if not (is_in_grid (point_in bytes)) then Err (PointOutOfGrid patch k) else
    Ok (point_in bytes, drop 12 bytes)

-- point k of a body of version 2 with this origin
unfoldable pub shifted_at : Point → ℕ → ℕ → ℕ → List ℕ → Result (Point × List ℕ) FileFault
shifted_at origin patch end k bytes =
    if nat_lt (length bytes) 6 then Err (Truncated end) else
    if not (is_in_grid (shifted_in origin bytes)) then Err (PointOutOfGrid patch k) else
    Ok (shifted_in origin bytes, drop 6 bytes)

-- the points, where on each axis one of them has the origin's coordinate
unfoldable pub tight : Point → ℕ → List Point × List ℕ → Result (List Point × List ℕ) FileFault
tight origin patch points =
    if not (list_any (λ (p : Point). int_eq p.x origin.x) points.0) then Err (Loose patch 0) else
    if not (list_any (λ (p : Point). int_eq p.y origin.y) points.0) then Err (Loose patch 1) else
    if not (list_any (λ (p : Point). int_eq p.z origin.z) points.0) then Err (Loose patch 2) else
    Ok points

-- so many points of a body of version 2
unfoldable pub shifted_points_at : ℕ → ℕ → ℕ → List ℕ → Result (List Point × List ℕ) FileFault
shifted_points_at count patch end bytes =
    if nat_lt (length bytes) 12 then Err (Truncated end) else
    many_at (shifted_at (point_in bytes) patch end) count 0 (drop 12 bytes) >>= λ points.
    tight (point_in bytes) patch points

-- so many points of a body
unfoldable pub points_at : ℕ → ℕ → ℕ → ℕ → List ℕ → Result (List Point × List ℕ) FileFault
points_at version count patch end bytes = if version == 2 then shifted_points_at count patch end bytes else many_at (point_at patch end) count 0 bytes

-- triangle k of a body with these points
unfoldable pub triangle_at : List Point → ℕ → ℕ → ℕ → List ℕ → Result (Corners × List ℕ) FileFault
triangle_at points patch end k bytes =
    if nat_lt (length bytes) 6 then Err (Truncated end) else
    if not (nat_lt (corners_in bytes).a (length points)) then Err (CornerIndex patch k (corners_in bytes).a) else
    if not (nat_lt (corners_in bytes).b (length points)) then Err (CornerIndex patch k (corners_in bytes).b) else
    if not (nat_lt (corners_in bytes).c (length points)) then Err (CornerIndex patch k (corners_in bytes).c) else
    if is_flat_triangle (triangle_of points (corners_in bytes)) then Err (Flat patch k) else
    Ok (corners_in bytes, drop 6 bytes)

-- the body of a patch from its place in the file; the bytes are as many as the body has, or all that
-- are left
unfoldable pub body_in : ℕ → ℕ → PatchField → ℕ → List ℕ → Result BodyLists FileFault
body_in version patch f offset bytes =
    points_at version f.points patch (offset + length bytes) bytes >>= λ points.
    many_at (triangle_at points.0 patch (offset + length bytes)) f.triangles 0 points.1 >>= λ corners.
    Ok (record { points = points.0; corners = corners.0 })

-- the body of the field, out of the whole file's bytes
abbrev pub body_of_file : ℕ → ℕ → PatchField → ℕ → List ℕ → Result BodyLists FileFault
body_of_file version patch f offset bytes = body_in version patch f offset (take (body_size version f) (drop offset bytes))

-- the bodies of the fields from patch `patch` on, the first from place `offset`, out of the whole file's bytes
unfoldable pub bodies_in : ℕ → ℕ → ℕ → List PatchField → List ℕ → Result (List BodyLists) FileFault
bodies_in version patch offset [] bytes = Ok []
bodies_in version patch offset (f ∷ fs) bytes =
    body_of_file version patch f offset bytes >>= λ first.
    bodies_in version (patch + 1) (offset + body_size version f) fs bytes >>= λ others.
    Ok (first ∷ others)

-- how many bytes a file with this index has
abbrev pub file_size : IndexLists → ℕ
file_size index = bodies_offset index + bodies_size index.version index.fields

-- where the body of a patch begins
abbrev pub body_offset : IndexLists → ℕ → ℕ
body_offset index patch = bodies_offset index + bodies_size index.version (take patch index.fields)

-- no byte follows the last body
unfoldable pub end_in : IndexLists → List ℕ → Result (Unit {0}) FileFault
end_in index bytes = if nat_le (length bytes) (file_size index) then Ok tt else Err (Trailing (file_size index + 1))

-- the whole file
unfoldable pub file_in : List ℕ → Result FileLists FileFault
file_in bytes =
    index_in bytes >>= λ index.
    bodies_in index.version 0 (bodies_offset index) index.fields bytes >>= λ bodies.
    end_in index bytes >>= λ _.
    Ok (record { index = index; bodies = bodies })
