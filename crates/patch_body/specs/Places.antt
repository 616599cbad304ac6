-- Where the points of a body stand in its bytes.
use Rattle.std.specs.Prelude.{ℕ, ◌+◌, ◌*◌, ◌<◌, ◌≤◌, ◌==◌, List, [], length, drop, slice_index, Result, Ok, Err, IsTrue, if◌then◌else◌}
use Rattle.grid_vertex.specs.declared.points.Point.{Point}
use Rattle.grid_vertex.specs.declared.triangles.Triangle.{Triangle}
use Rattle.grid_vertex.specs.Points.{is_in_grid}
use Rattle.file_model.specs.declared.faults.FileFault.{FileFault}
use Rattle.file_model.specs.Reading.{point_in, shifted_in, points_at}

-- how many bytes so many points have
unfoldable pub points_size : ℕ → ℕ → ℕ
points_size version count = if version == 2 then 12 + 6 * count else 12 * count

-- point k of a body's bytes
unfoldable pub point_of_bytes : ℕ → List ℕ → ℕ → Point
point_of_bytes version bytes k = if version == 2 then shifted_in (point_in bytes) (drop (12 + 6 * k) bytes) else point_in (drop (12 * k) bytes)

-- point k is there, and in the grid
pub record HasPoint (version : ℕ) (bytes : List ℕ) (k : ℕ) : Type 0 where
  pub room : points_size version (k + 1) ≤ length bytes
  pub grid : IsTrue (is_in_grid (point_of_bytes version bytes k))

-- so many points are
abbrev pub HavePoints : ℕ → List ℕ → ℕ → Type 0
HavePoints version bytes count = (k : ℕ) → k < count → HasPoint version bytes k

-- the points that three corners name are
pub record HasCorners (version : ℕ) (bytes : List ℕ) (corners : List ℕ) : Type 0 where
  pub a : HasPoint version bytes (slice_index corners 0)
  pub b : HasPoint version bytes (slice_index corners 1)
  pub c : HasPoint version bytes (slice_index corners 2)

-- the triangle that three corners make of the points
abbrev pub triangle_of_bytes : ℕ → List ℕ → List ℕ → Triangle
triangle_of_bytes version bytes corners = record {
  a = point_of_bytes version bytes (slice_index corners 0);
  b = point_of_bytes version bytes (slice_index corners 1);
  c = point_of_bytes version bytes (slice_index corners 2);
}

-- the points of a reading, and none where it ended with a fault
abbrev pub points_of : Result (List Point × List ℕ) FileFault → List Point
points_of (Ok points) = points.0
points_of (Err fault) = []

-- the points that a body's bytes give
abbrev pub points_read : ℕ → ℕ → ℕ → ℕ → List ℕ → List Point
points_read version count patch end bytes = points_of (points_at version count patch end bytes)
