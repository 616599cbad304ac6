-- A file in another version, and the patches that version 2 can't have.
use Rattle.std.specs.Prelude.{◌≡◌, ℕ, ◌<◌, ◌≤◌, Bool, true, false, List, slice_get, Some, IsTrue}
use Rattle.std.specs.List.{list_all, Contains}
use Rattle.grid_vertex.specs.declared.points.Point.{Point}
use Rattle.grid_vertex.specs.Points.{gap}
use Rattle.file_model.specs.Lists.{BodyLists, FileLists}
use Rattle.file_model.specs.Rules.{is_narrow}

-- the same nodes, fields, points and corners in another version
abbrev pub with_version : ℕ → FileLists → FileLists
with_version version file = record {
  index = record { version = version; nodes = file.index.nodes; fields = file.index.fields };
  bodies = file.bodies;
}

-- the body's points lie near enough to one another for the version
abbrev pub fits_version : ℕ → BodyLists → Bool
fits_version version body = is_narrow version body.points

-- each body's do
abbrev pub AllFit : ℕ → List BodyLists → Type 0
AllFit version bodies = IsTrue (list_all (fits_version version) bodies)

-- the patch is the least whose body doesn't fit version 2
pub record IsLeastWide (bodies : List BodyLists) (patch : ℕ) : Type 0 where
  pub wide : (b : BodyLists) × (slice_get bodies patch ≡ Some b) × (fits_version 2 b ≡ false)
  pub earlier : (p : ℕ) (b : BodyLists) → p < patch → slice_get bodies p ≡ Some b → fits_version 2 b ≡ true

-- two points are at most 65,535 apart on each axis
pub record AreNear (p q : Point) : Type 0 where
  pub x : gap p.x q.x ≤ 65535
  pub y : gap p.y q.y ≤ 65535
  pub z : gap p.z q.z ≤ 65535

-- any two of the points are
abbrev pub AllNear : List Point → Type 0
AllNear points = (p q : Point) → Contains points p → Contains points q → AreNear p q
