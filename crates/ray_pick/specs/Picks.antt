-- The triangle of a frame that a ray meets first.
use Rattle.std.specs.Prelude.{◌≡◌, ℕ, ◌+◌, ◌*◌, ◌<◌, ◌≤◌, List, length, map, take, ℤ, unsigned_abs, slice_get, Option, Some, None}
use Rattle.std.specs.List.{flat_map}
use Rattle.grid_vertex.specs.declared.triangles.Triangle.{Triangle}
use Rattle.file_model.specs.Lists.{SeenBody, triangles_of}
use Rattle.ray_pick.specs.declared.picks.Hit.{Hit}
use Rattle.ray_pick.specs.Rays.{RaySeen, IsHitAt, Misses}

-- the triangles of the bodies, in order
abbrev pub triangles_in : List SeenBody → List Triangle
triangles_in bodies = flat_map (λ (body : SeenBody). triangles_of body.lists) bodies

-- the bodies are those of the patches, in order
abbrev pub AreBodiesOf : List ℕ → List SeenBody → Type 0
AreBodiesOf patches bodies = map (λ (body : SeenBody). body.patch) bodies ≡ patches

-- a fraction's number above times another's below, none of which is less than 0
abbrev pub crosswise : ℤ → ℤ → ℕ
crosswise above below = unsigned_abs above * unsigned_abs below

-- of the first `count` triangles, the one at the place is hit at above / below, none at a lesser fraction, and
-- none before it at an equal one
pub record IsNearest (ray : RaySeen) (triangles : List Triangle) (count place : ℕ) (above below : ℤ) : Type 0 where
  pub triangle : Triangle
  pub counted : place < count
  pub there : slice_get triangles place ≡ Some triangle
  pub hit : IsHitAt ray triangle above below
  pub least : (k : ℕ) (t : Triangle) (a b : ℤ) → k < count → slice_get triangles k ≡ Some t → IsHitAt ray t a b → crosswise above b ≤ crosswise a below
  pub first : (k : ℕ) (t : Triangle) (a b : ℤ) → k < place → slice_get triangles k ≡ Some t → IsHitAt ray t a b → crosswise above b < crosswise a below

-- the place among the bodies' triangles is triangle `triangle` of patch `patch`
pub record IsSpot (patches : List ℕ) (bodies : List SeenBody) (place patch triangle : ℕ) : Type 0 where
  pub index : ℕ
  pub body : SeenBody
  pub patch_there : slice_get patches index ≡ Some patch
  pub body_there : slice_get bodies index ≡ Some body
  pub inside : triangle < length (triangles_of body.lists)
  pub place_is : place ≡ length (triangles_in (take index bodies)) + triangle

pub record IsFound (ray : RaySeen) (patches : List ℕ) (bodies : List SeenBody) (count : ℕ) (hit : Hit) : Type 0 where
  pub nearest : IsNearest ray (triangles_in bodies) count hit.place hit.above hit.below
  pub spot : IsSpot patches bodies hit.place hit.patch hit.triangle

-- the first hit of the first `count` triangles, and none exactly where none of them is hit
abbrev pub IsPickOf : RaySeen → List ℕ → List SeenBody → ℕ → Option Hit → Type 0
IsPickOf ray patches bodies count None = (k : ℕ) (t : Triangle) → k < count → slice_get (triangles_in bodies) k ≡ Some t → Misses ray t
IsPickOf ray patches bodies count (Some hit) = IsFound ray patches bodies count hit

-- the first hit of the bodies' triangles, and none exactly where none of them is hit
unfoldable pub IsPicked : RaySeen → List ℕ → List SeenBody → Option Hit → Type 0
IsPicked ray patches bodies pick = IsPickOf ray patches bodies (length (triangles_in bodies)) pick
