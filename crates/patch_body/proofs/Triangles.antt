-- The triangles of a body whose points have no fault.
use Rattle.std.proofs.Common.{◌≡◌, ℕ, ◌≤◌, ◌<◌, Bool, true, false, cond, ltb, not, List, length, drop, Option, Some, None, Result, Err, refl, sym, ap, ◌∙◌}
use Rattle.std.specs.Prelude.{slice_index, if◌then◌else◌}
use Rattle.std.proofs.lemmas.Bool.{ltb-true, ltb-false, le-ltb, lt-ltb, not-false}
use Rattle.grid_vertex.specs.declared.points.Point.{Point}
use Rattle.grid_vertex.specs.Triangles.{is_flat_triangle}
use Rattle.file_model.specs.declared.faults.FileFault.{FileFault}
use Rattle.file_model.specs.declared.faults.FileFault.TheVariants.{Truncated, CornerIndex, Flat}
use Rattle.file_model.specs.Lists.{Corners, corners_of, triangle_of}
use Rattle.file_model.specs.Reading.{corners_in, triangle_at, points_at}
use Rattle.patch_body.specs.Faults.{fault_of, corner_fault}
use Rattle.patch_body.specs.Places.{HasCorners, triangle_of_bytes, points_of, points_read}
use Rattle.patch_body.proofs.Units.{IsUnit, given, passes}
use Rattle.patch_body.proofs.Points.{ArePoints, are_points, place_of}

-- the fault of a triangle's corners, or else that it is flat
abbrev pub or_flat : Option FileFault → Bool → ℕ → ℕ → Option FileFault
or_flat (Some fault) flat patch k = Some fault
or_flat None flat patch k = if flat then Some (Flat patch k) else None

by_tests : (a b c flat : Bool) (t : Corners) (patch k : ℕ) (rest : List ℕ)
    → fault_of (cond (not a) (Err (CornerIndex patch k t.a)) (cond (not b) (Err (CornerIndex patch k t.b)) (cond (not c) (Err (CornerIndex patch k t.c)) (cond flat (Err (Flat patch k)) (given t rest)))))
    ≡ or_flat (cond (not a) (Some (CornerIndex patch k t.a)) (cond (not b) (Some (CornerIndex patch k t.b)) (cond (not c) (Some (CornerIndex patch k t.c)) None))) flat patch k
by_tests false b c flat t patch k rest = refl
by_tests true false c flat t patch k rest = refl
by_tests true true false flat t patch k rest = refl
by_tests true true true false t patch k rest = refl
by_tests true true true true t patch k rest = refl

pub triangle_fault : (points : List Point) (patch end k : ℕ) (bytes : List ℕ) → 6 ≤ length bytes
    → fault_of (triangle_at points patch end k bytes) ≡ or_flat (corner_fault patch (length points) k (corners_in bytes)) (is_flat_triangle (triangle_of points (corners_in bytes))) patch k
unfolding triangle_at
triangle_fault points patch end k bytes room =
    rw (le-ltb (length bytes) 6 room) (by_tests (ltb (corners_in bytes).a (length points)) (ltb (corners_in bytes).b (length points)) (ltb (corners_in bytes).c (length points)) (is_flat_triangle (triangle_of points (corners_in bytes))) (corners_in bytes) patch k (drop 6 bytes))

-- the three corners are places of points
pub record AreBelow (count : ℕ) (t : Corners) : Type 0 where
  pub a : t.a < count
  pub b : t.b < count
  pub c : t.c < count

below_by_tests : (a b c : Bool) (x y z : FileFault) → None ≡ cond (not a) (Some x) (cond (not b) (Some y) (cond (not c) (Some z) None)) → (a ≡ true) × (b ≡ true) × (c ≡ true)
below_by_tests false b c x y z h = absurd cc
below_by_tests true false c x y z h = absurd cc
below_by_tests true true false x y z h = absurd cc
below_by_tests true true true x y z h = (refl, refl, refl)

pub are_below : (patch count k : ℕ) (t : Corners) → None ≡ corner_fault patch count k t → AreBelow count t
are_below patch count k t h =
    let tests = below_by_tests (ltb t.a count) (ltb t.b count) (ltb t.c count) (CornerIndex patch k t.a) (CornerIndex patch k t.b) (CornerIndex patch k t.c) h in
    record { a = ltb-true t.a count tests.0; b = ltb-true t.b count tests.1; c = ltb-true t.c count tests.2 }

-- the triangle of the list of points is that of the bytes
pub triangle_same : (version count patch end : ℕ) (bytes : List ℕ) (points : List Point) → ArePoints version count patch end bytes points → (corners : List ℕ) → AreBelow count (corners_of corners)
    → triangle_of points (corners_of corners) ≡ triangle_of_bytes version bytes corners
unfolding triangle_of
triangle_same version count patch end bytes points p corners below =
    rw (place_of version count patch end bytes points p (slice_index corners 0) below.a, place_of version count patch end bytes points p (slice_index corners 1) below.b, place_of version count patch end bytes points p (slice_index corners 2) below.c) refl

pub corners_there : (version count patch end : ℕ) (bytes : List ℕ) (points : List Point) → ArePoints version count patch end bytes points → (corners : List ℕ) → AreBelow count (corners_of corners) → HasCorners version bytes corners
corners_there version count patch end bytes points p corners below = record { a = p.there _ below.a; b = p.there _ below.b; c = p.there _ below.c }

-- ---- the same of the points that the bytes give

pub points_read-is : (version count patch end : ℕ) (bytes : List ℕ) (points : List Point) → ArePoints version count patch end bytes points → points_read version count patch end bytes ≡ points
points_read-is version count patch end bytes points p = ap points_of p.is

pub checked_triangle : (version count patch end k : ℕ) (bytes rest corners : List ℕ) → fault_of (points_at version count patch end bytes) ≡ None → 6 ≤ length rest → corners_of corners ≡ corners_in rest
    → fault_of (triangle_at (points_read version count patch end bytes) patch end k rest) ≡ or_flat (corner_fault patch count k (corners_of corners)) (is_flat_triangle (triangle_of (points_read version count patch end bytes) (corners_of corners))) patch k
checked_triangle version count patch end k bytes rest corners none room same =
    let p = are_points version count patch end bytes none in
    let points = points_read version count patch end bytes in
    let long : length points ≡ count = ap length (points_read-is version count patch end bytes p.0 p.1) ∙ p.1.length_is in
    triangle_fault points patch end k rest room
    ∙ ap (λ (n : ℕ). or_flat (corner_fault patch n k (corners_in rest)) (is_flat_triangle (triangle_of points (corners_in rest))) patch k) long
    ∙ ap (λ (t : Corners). or_flat (corner_fault patch count k t) (is_flat_triangle (triangle_of points t)) patch k) (sym same)

pub triangle_here : (version count patch end k : ℕ) (bytes corners : List ℕ) → fault_of (points_at version count patch end bytes) ≡ None → None ≡ corner_fault patch count k (corners_of corners)
    → triangle_of (points_read version count patch end bytes) (corners_of corners) ≡ triangle_of_bytes version bytes corners
triangle_here version count patch end k bytes corners none below =
    let p = are_points version count patch end bytes none in
    ap (λ (points : List Point). triangle_of points (corners_of corners)) (points_read-is version count patch end bytes p.0 p.1)
    ∙ triangle_same version count patch end bytes p.0 p.1 corners (are_below patch count k (corners_of corners) below)

-- the fault of a triangle whose corners are places of points
pub flat_fault : (version count patch end k : ℕ) (bytes rest corners : List ℕ) → fault_of (points_at version count patch end bytes) ≡ None → 6 ≤ length rest → corners_of corners ≡ corners_in rest
    → None ≡ corner_fault patch count k (corners_of corners) → (flat : Bool) → flat ≡ is_flat_triangle (triangle_of_bytes version bytes corners)
    → or_flat None flat patch k ≡ fault_of (triangle_at (points_read version count patch end bytes) patch end k rest)
flat_fault version count patch end k bytes rest corners none room same below flat is =
    let points = points_read version count patch end bytes in
    let here : flat ≡ is_flat_triangle (triangle_of points (corners_of corners)) = is ∙ ap is_flat_triangle (sym (triangle_here version count patch end k bytes corners none below)) in
    ap (λ (b : Bool). or_flat None b patch k) here
    ∙ ap (λ (f : Option FileFault). or_flat f (is_flat_triangle (triangle_of points (corners_of corners))) patch k) below
    ∙ sym (checked_triangle version count patch end k bytes rest corners none room same)

-- ---- triangles as units

-- what reading a triangle says where it has no fault
pub record IsTriangle (points : List Point) (bytes : List ℕ) (read : Result (Corners × List ℕ) FileFault) : Type 0 where
  pub gives : read ≡ given (corners_in bytes) (drop 6 bytes)
  pub room : 6 ≤ length bytes
  pub below : AreBelow (length points) (corners_in bytes)
  pub not_flat : is_flat_triangle (triangle_of points (corners_in bytes)) ≡ false

below-true : (a b : ℕ) → not (ltb a b) ≡ false → a < b
below-true a b h = ltb-true a b (not-false (ltb a b) h)

pub is_triangle_at : (points : List Point) (patch end k : ℕ) (bytes : List ℕ) → fault_of (triangle_at points patch end k bytes) ≡ None → IsTriangle points bytes (triangle_at points patch end k bytes)
unfolding triangle_at
is_triangle_at points patch end k bytes h =
    let room = passes (ltb (length bytes) 6) (Truncated end) _ h in
    let a = passes (not (ltb (corners_in bytes).a (length points))) (CornerIndex patch k (corners_in bytes).a) _ room.none in
    let b = passes (not (ltb (corners_in bytes).b (length points))) (CornerIndex patch k (corners_in bytes).b) _ a.none in
    let c = passes (not (ltb (corners_in bytes).c (length points))) (CornerIndex patch k (corners_in bytes).c) _ b.none in
    let flat = passes (is_flat_triangle (triangle_of points (corners_in bytes))) (Flat patch k) (given (corners_in bytes) (drop 6 bytes)) c.none in
    record {
      gives = room.is ∙ a.is ∙ b.is ∙ c.is ∙ flat.is;
      room = ltb-false (length bytes) 6 room.fails;
      below = record { a = below-true _ _ a.fails; b = below-true _ _ b.fails; c = below-true _ _ c.fails };
      not_flat = flat.fails;
    }

pub triangle_unit : (points : List Point) (patch end : ℕ) → IsUnit 6 corners_in (triangle_at points patch end)
triangle_unit points patch end = record {
  gives = λ k bytes h. (is_triangle_at points patch end k bytes h).gives;
  room = λ k bytes h. (is_triangle_at points patch end k bytes h).room;
}

pub less_triangle : (points : List Point) (patch end other place k : ℕ) (bytes : List ℕ) → fault_of (triangle_at points patch end k bytes) ≡ None → fault_of (triangle_at points other place k bytes) ≡ None
unfolding triangle_at
less_triangle points patch end other place k bytes h =
    let t = is_triangle_at points patch end k bytes h in
    rw (le-ltb (length bytes) 6 t.room, lt-ltb (corners_in bytes).a (length points) t.below.a, lt-ltb (corners_in bytes).b (length points) t.below.b, lt-ltb (corners_in bytes).c (length points) t.below.c, t.not_flat) refl
