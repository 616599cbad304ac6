-- What callers see of a body.
use Rattle.std.specs.Prelude.{◌≡◌, ℕ, ◌≤◌, List, [], length, map, Result, Ok, Err, None, IsTrue}
use Rattle.grid_vertex.specs.declared.points.Point.{Point}
use Rattle.grid_vertex.specs.declared.triangles.Triangle.{Triangle}
use Rattle.grid_vertex.specs.Points.{is_in_grid}
use Rattle.file_model.specs.declared.faults.FileFault.{FileFault}
use Rattle.file_model.specs.declared.fields.PatchField.{PatchField}
use Rattle.file_model.specs.Lists.{BodyLists, SeenBody, corners_of}
use Rattle.file_model.specs.Spelling.{body_text}
use Rattle.file_model.specs.Rules.{is_version, is_body}
use Rattle.file_model.specs.Reading.{body_in}
use Rattle.patch_body.specs.Faults.{fault_of}

-- from 1 on, and no more than two bytes count
pub record IsCount (n : ℕ) : Type 0 where
  pub some_there : 1 ≤ n
  pub few : n ≤ 65535

-- what holds of every body
pub record IsSeenBody (body : SeenBody) : Type 0 where
  pub version : IsTrue (is_version body.version)
  pub points : IsCount (length body.lists.points)
  pub triangles : IsCount (length body.lists.corners)
  pub rules : IsTrue (is_body body.version body.lists)
  pub text : body.bytes ≡ body_text body.version body.lists

-- the three corners are in the grid
pub record IsInGrid (t : Triangle) : Type 0 where
  pub a : IsTrue (is_in_grid t.a)
  pub b : IsTrue (is_in_grid t.b)
  pub c : IsTrue (is_in_grid t.c)

-- points with corners that are given by threes of numbers
abbrev pub lists_with : List Point → List (List ℕ) → BodyLists
lists_with points corners = record { points = points; corners = map corners_of corners }

-- a field with these numbers of points and triangles
abbrev pub field_of : ℕ → ℕ → PatchField
field_of points triangles = record { tail = 0; head = 0; points = points; triangles = triangles }

-- the lists of a reading, and empty ones where it ended with a fault
abbrev pub lists_of : Result BodyLists FileFault → BodyLists
lists_of (Ok lists) = lists
lists_of (Err fault) = record { points = []; corners = [] }

-- the lists that the bytes of so many points and triangles give
unfoldable pub lists_in : ℕ → ℕ → ℕ → List ℕ → BodyLists
lists_in version points triangles bytes = lists_of (body_in version 0 (field_of points triangles) 0 bytes)

-- the body that is kept as these numbers and bytes
abbrev pub seen_body : ℕ → ℕ → ℕ → ℕ → List ℕ → SeenBody
seen_body patch version points triangles bytes = record { patch = patch; version = version; lists = lists_in version points triangles bytes; bytes = bytes }

-- the bytes give lists, which are a body
pub record IsKept (patch version points triangles : ℕ) (bytes : List ℕ) : Type 0 where
  pub reads : fault_of (body_in version 0 (field_of points triangles) 0 bytes) ≡ None
  pub seen : IsSeenBody (seen_body patch version points triangles bytes)
