-- Rays, and where one meets a triangle.
use Rattle.std.specs.Prelude.{◌≡◌, ℕ, ◌+◌, ◌≤◌, Bool, not, ◌&&◌, ℤ, pos, ◌+ℤ◌, ◌-ℤ◌, ◌*ℤ◌, ◌≢◌, unsigned_abs, Option, Some, None, if◌then◌else◌}
use Rattle.std.specs.Ordering.{int_eq}
use Rattle.grid_vertex.specs.declared.points.Point.{Point}
use Rattle.grid_vertex.specs.declared.triangles.Triangle.{Triangle}
use Rattle.grid_vertex.specs.Points.{is_point_within}
use Rattle.ray_pick.specs.declared.vectors.Vector.{Vector}
use Rattle.ray_pick.specs.declared.rays.TheConstants.{ORIGIN_REACH, DIRECTION_REACH}

-- from a point on in a direction
pub record RaySeen : Type 0 where
  pub origin : Point
  pub direction : Point

-- each coordinate is 0
abbrev pub is_nought : Point → Bool
is_nought p = int_eq p.x (pos 0) && int_eq p.y (pos 0) && int_eq p.z (pos 0)

-- the numbers are in their ranges, and the direction isn't 0
abbrev pub is_ray : Point → Point → Bool
is_ray origin direction = is_point_within ORIGIN_REACH origin && is_point_within DIRECTION_REACH direction && not (is_nought direction)

-- the ray of numbers in their ranges, and none of others
abbrev pub ray_of : Point → Point → Option RaySeen
ray_of origin direction = if is_ray origin direction then Some (record { origin = origin; direction = direction }) else None

-- the way from one point to another
abbrev pub way : Point → Point → Vector
way p q = record { x = q.x -ℤ p.x; y = q.y -ℤ p.y; z = q.z -ℤ p.z }

abbrev pub vector_of : Point → Vector
vector_of p = record { x = p.x; y = p.y; z = p.z }

-- p x q
abbrev pub cross : Vector → Vector → Vector
cross p q = record { x = p.y *ℤ q.z -ℤ p.z *ℤ q.y; y = p.z *ℤ q.x -ℤ p.x *ℤ q.z; z = p.x *ℤ q.y -ℤ p.y *ℤ q.x }

-- p * q
abbrev pub dot : Vector → Vector → ℤ
dot p q = p.x *ℤ q.x +ℤ p.y *ℤ q.y +ℤ p.z *ℤ q.z

-- (p x q) * r
unfoldable pub determinant : Vector → Vector → Vector → ℤ
determinant p q r = dot (cross p q) r

-- how much the ray's direction goes along the triangle's normal (b - a) x (c - a)
unfoldable pub gain : RaySeen → Triangle → ℤ
gain ray t = determinant (way t.a t.b) (way t.a t.c) (vector_of ray.direction)

-- on one axis, below times the origin with above times the direction is the sum of the corners by their weights
abbrev pub IsSum : (above below origin direction : ℤ) (w0 w1 w2 : ℕ) (a b c : ℤ) → Type 0
IsSum above below origin direction w0 w1 w2 a b c = below *ℤ origin +ℤ above *ℤ direction ≡ pos w0 *ℤ a +ℤ pos w1 *ℤ b +ℤ pos w2 *ℤ c

-- the ray meets the triangle above / below times its direction past its origin, in the mean of the corners by
-- these weights; none of these numbers is below 0, and the ray's direction isn't in the triangle's plane
pub record IsHitWith (ray : RaySeen) (t : Triangle) (w0 w1 w2 at : ℕ) (above below : ℤ) : Type 0 where
  pub above_is : above ≡ pos at
  pub below_is : below ≡ pos (unsigned_abs (gain ray t))
  pub crosses : gain ray t ≢ pos 0
  pub weights : pos (w0 + w1 + w2) ≡ below
  pub x : IsSum above below ray.origin.x ray.direction.x w0 w1 w2 t.a.x t.b.x t.c.x
  pub y : IsSum above below ray.origin.y ray.direction.y w0 w1 w2 t.a.y t.b.y t.c.y
  pub z : IsSum above below ray.origin.z ray.direction.z w0 w1 w2 t.a.z t.b.z t.c.z

-- the triangle is hit at the fraction above / below of the direction
pub record IsHitAt (ray : RaySeen) (t : Triangle) (above below : ℤ) : Type 0 where
  pub w0 : ℕ
  pub w1 : ℕ
  pub w2 : ℕ
  pub at : ℕ
  pub hit : IsHitWith ray t w0 w1 w2 at above below

-- the triangle isn't hit
abbrev pub Misses : RaySeen → Triangle → Type 0
Misses ray t = (above below : ℤ) → IsHitAt ray t above below → ⊥

-- how far from 0 the two numbers of a fraction are at most
pub record IsSmall (above below : ℤ) : Type 0 where
  pub above_within : unsigned_abs above ≤ 442721857769029238784
  pub below_within : unsigned_abs below ≤ 108086391056891904
