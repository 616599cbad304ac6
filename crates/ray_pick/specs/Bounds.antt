-- How far from 0 coordinates are.
use Rattle.std.specs.Prelude.{ℕ, ◌≤◌, unsigned_abs}
use Rattle.grid_vertex.specs.declared.points.Point.{Point}
use Rattle.ray_pick.specs.declared.vectors.Vector.{Vector}

-- a point in the range of origins
pub record IsNear (p : Point) : Type 0 where
  pub x : unsigned_abs p.x ≤ 2097152
  pub y : unsigned_abs p.y ≤ 2097152
  pub z : unsigned_abs p.z ≤ 2097152

-- each coordinate is in -limit to limit
pub record IsShort (limit : ℕ) (v : Vector) : Type 0 where
  pub x : unsigned_abs v.x ≤ limit
  pub y : unsigned_abs v.y ≤ limit
  pub z : unsigned_abs v.z ≤ limit
