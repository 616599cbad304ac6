-- What words behind a file's name spell.
use Rattle.std.specs.Prelude.{ℕ, List, [], ◌∷◌, Option, Some, None, ℤ, codes, bytes_eq, if◌then◌else◌}
use Rattle.grid_vertex.specs.declared.points.Point.{Point}
use Rattle.number_words.specs.Numbers.{number_in, signed_in}
use Rattle.round_model.specs.declared.limits.TheConstants.{GREATEST_FOCAL, GREATEST_THRESHOLD}
use Rattle.round_model.specs.Views.{ViewSeen, view_of}
use Rattle.view_planes.specs.declared.half_spaces.TheConstants as half_spaces
use Rattle.ray_pick.specs.declared.rays.TheConstants.{ORIGIN_REACH, DIRECTION_REACH}
use Rattle.view_planes.specs.HalfSpaces.{HalfSpaceSeen, half_space_of}
use Rattle.view_planes.specs.Planes.{PlanesSeen, has_room, with_plane}
use Rattle.ray_pick.specs.Rays.{RaySeen, ray_of}

-- the version that a word spells
abbrev pub version_in : List ℕ → Option ℕ
version_in word =
    if bytes_eq word (codes "1") then Some 1 else
    if bytes_eq word (codes "2") then Some 2 else
    None

abbrev pub point_from : Option ℤ → Option ℤ → Option ℤ → Option Point
point_from (Some x) (Some y) (Some z) = Some (record { x = x; y = y; z = z })
point_from x y z = None

-- the point that three words spell, with coordinates so far from 0 at most
abbrev pub point_in : ℕ → List ℕ → List ℕ → List ℕ → Option Point
point_in reach x y z = point_from (signed_in reach x) (signed_in reach y) (signed_in reach z)

-- the view of these numbers, where all are there and in their ranges
abbrev pub view_from : Option Point → Option ℕ → Option ℕ → Option ℕ → Option ViewSeen
view_from (Some eye) (Some focal) (Some threshold) (Some limit) = view_of eye focal threshold limit
view_from eye focal threshold limit = None

-- the view from an eye, of what three words spell
abbrev pub view_in : Option Point → List ℕ → List ℕ → List ℕ → Option ViewSeen
view_in eye focal threshold limit = view_from eye (number_in GREATEST_FOCAL focal) (number_in GREATEST_THRESHOLD threshold) (number_in 4294967295 limit)

abbrev pub half_space_from : Option Point → Option ℤ → Option HalfSpaceSeen
half_space_from (Some normal) (Some level) = half_space_of normal level
half_space_from normal level = None

-- the half-space that four words spell
abbrev pub half_space_in : List ℕ → List ℕ → List ℕ → List ℕ → Option HalfSpaceSeen
half_space_in a b c d = half_space_from (point_in half_spaces.NORMAL_REACH a b c) (signed_in half_spaces.LEVEL_REACH d)

-- a half-space is put behind the others, where it is there and there is room
abbrev pub with_half_space : PlanesSeen → Option HalfSpaceSeen → Option PlanesSeen
with_half_space seen None = None
with_half_space seen (Some plane) = if has_room seen.planes then Some (with_plane seen plane) else None

-- those that the words spell, four words each, are put behind the others
unfoldable pub with_half_spaces : Option PlanesSeen → List (List ℕ) → Option PlanesSeen
with_half_spaces None words = None
with_half_spaces (Some seen) [] = Some seen
with_half_spaces (Some seen) (a ∷ b ∷ c ∷ d ∷ words) = with_half_spaces (with_half_space seen (half_space_in a b c d)) words
with_half_spaces (Some seen) words = None

-- the view with the half-spaces that the words spell, one or more; there is room for six
abbrev pub planes_in : Option ViewSeen → List (List ℕ) → Option PlanesSeen
planes_in None words = None
planes_in (Some view) [] = None
planes_in (Some view) words = with_half_spaces (Some (record { view = view; planes = [] })) words

-- the ray from a point on in a direction, where both are there and it is one
abbrev pub ray_from : Option Point → Option Point → Option RaySeen
ray_from (Some origin) (Some direction) = ray_of origin direction
ray_from origin direction = None

-- the ray that the words spell, its origin first
abbrev pub ray_in : List (List ℕ) → Option RaySeen
ray_in (x ∷ y ∷ z ∷ to_x ∷ to_y ∷ to_z ∷ []) = ray_from (point_in ORIGIN_REACH x y z) (point_in DIRECTION_REACH to_x to_y to_z)
ray_in words = None
