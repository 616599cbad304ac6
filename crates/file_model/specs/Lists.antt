-- What a patch file says: a version, nodes, patch fields and bodies.
use Rattle.std.specs.Prelude.{ℕ, ◌+◌, ◌*◌, ◌==◌, List, [], ◌∷◌, length, pos, slice_index, slice_get, unwrap_or, if◌then◌else◌}
use Rattle.grid_vertex.specs.declared.points.Point.{Point}
use Rattle.grid_vertex.specs.declared.triangles.Triangle.{Triangle}
use Rattle.file_model.specs.declared.fields.Node.{Node}
use Rattle.file_model.specs.declared.fields.PatchField.{PatchField}

-- the places of a triangle's corners in its body's list of points
pub record Corners : Type 0 where
  pub a : ℕ
  pub b : ℕ
  pub c : ℕ

-- a body: its points and its triangles' corners
pub record BodyLists : Type 0 where
  pub points : List Point
  pub corners : List Corners

-- a body as it is held: its patch, its version, and its points and corners with the bytes that spell them
pub record SeenBody : Type 0 where
  pub patch : ℕ
  pub version : ℕ
  pub lists : BodyLists
  pub bytes : List ℕ

-- stands where there is no body
abbrev pub no_body : SeenBody
no_body = record { patch = 0; version = 1; lists = record { points = []; corners = [] }; bytes = [] }

-- what a file says before its bodies
pub record IndexLists : Type 0 where
  pub version : ℕ
  pub nodes : List Node
  pub fields : List PatchField

-- what a file says
pub record FileLists : Type 0 where
  pub index : IndexLists
  pub bodies : List BodyLists

abbrev pub origin_point : Point
origin_point = record { x = pos 0; y = pos 0; z = pos 0 }

-- the point at a place of the list, and the origin past its end
unfoldable pub point_at_place : List Point → ℕ → Point
point_at_place points k = unwrap_or (slice_get points k) origin_point

-- the triangle that three corners make of a list of points
unfoldable pub triangle_of : List Point → Corners → Triangle
triangle_of points t = record { a = point_at_place points t.a; b = point_at_place points t.b; c = point_at_place points t.c }

-- a body's triangles, in file order
unfoldable pub triangles_from : List Point → List Corners → List Triangle
triangles_from points [] = []
triangles_from points (t ∷ ts) = triangle_of points t ∷ triangles_from points ts

abbrev pub triangles_of : BodyLists → List Triangle
triangles_of body = triangles_from body.points body.corners

-- three numbers as a triangle's corners
abbrev pub corners_of : List ℕ → Corners
corners_of ks = record { a = slice_index ks 0; b = slice_index ks 1; c = slice_index ks 2 }

-- how many bytes a body has
unfoldable pub body_size : ℕ → PatchField → ℕ
body_size version f = if version == 2 then 12 + 6 * f.points + 6 * f.triangles else 12 * f.points + 6 * f.triangles

-- how many bytes the bodies have
unfoldable pub bodies_size : ℕ → List PatchField → ℕ
bodies_size version [] = 0
bodies_size version (f ∷ fs) = body_size version f + bodies_size version fs

-- where the bodies begin
abbrev pub bodies_offset : IndexLists → ℕ
bodies_offset index = 16 + 20 * length index.nodes + 12 * length index.fields
