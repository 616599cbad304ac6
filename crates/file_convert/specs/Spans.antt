-- Points fit version 2 exactly where any two of them are near one another on each axis.
use Rattle.std.proofs.Common.{◌≡◌, zero, suc, ◌≤◌, Bool, true, ◌&&◌, leb, List, [], ◌∷◌, length, map, ℤ, refl, subst, arith, inl, inr}
use Rattle.std.specs.Prelude.{◌-ℤ◌, ◌↔◌, unsigned_abs, int_le}
use Rattle.std.specs.Ordering.{int_eq}
use Rattle.std.specs.List.{Contains, list_all, list_any}
use Rattle.std.proofs.lemmas.Int.{ints}
use Rattle.std.proofs.lemmas.Bool.{and_from, and_parts, le-leb, leb-true, or_cases}
use Rattle.std.proofs.lemmas.Bool.Decides.{Decides-int_eq}
use Rattle.grid_vertex.specs.declared.points.Point.{Point}
use Rattle.file_model.specs.Spelling.{least, origin_of}
use Rattle.file_model.specs.Rules.{is_near_origin, is_narrow}
use Rattle.file_laws.specs.Origins.{least_below, least_reached}
use Rattle.file_convert.specs.Converted.{AllNear}

-- ---- lists

-- what passes a test passes it at each item, and the other way round
at_item : {X : Type 0} (test : X → Bool) (xs : List X) (x : X) → list_all test xs ≡ true → Contains xs x → test x ≡ true
at_item test [] x h at = absurd (omega (arith, at.1))
at_item test (y ∷ ys) x h (zero, within, is) = subst (λ z. test z ≡ true) is (and_parts (test y) (list_all test ys) h).0
at_item test (y ∷ ys) x h (suc k, within, is) = at_item test ys x (and_parts (test y) (list_all test ys) h).1 (k, omega (arith, within), is)

from_items : {X : Type 0} (test : X → Bool) (xs : List X) → ((x : X) → Contains xs x → test x ≡ true) → list_all test xs ≡ true
from_items test [] h = refl
from_items test (y ∷ ys) h = and_from (test y) (list_all test ys) (h y (0, omega arith, refl)) (from_items test ys (λ x at. h x (suc at.0, omega (arith, at.1), at.2)))

some_item : {X : Type 0} (test : X → Bool) (xs : List X) → list_any test xs ≡ true → (x : X) × Contains xs x × (test x ≡ true)
some_item test [] h = absurd cc
some_item test (y ∷ ys) h =
    elim (or_cases (test y) (list_any test ys) h) [
      | inl first ↦ (y, (0, omega arith, refl), first)
      | inr later ↦ let rest = some_item test ys later in (rest.0, (suc rest.1.0, omega (arith, rest.1.1), rest.1.2), rest.2)
    ]

-- ---- one axis

-- the points' coordinates on an axis are near the least of them
abbrev NearLeast : (Point → ℤ) → List Point → Point → Type 0
NearLeast get points p = unsigned_abs (get p -ℤ least (map get points)) ≤ 65535

near_both : (o a b : ℤ) → int_le o a ≡ true → int_le o b ≡ true → unsigned_abs (a -ℤ o) ≤ 65535 → unsigned_abs (b -ℤ o) ≤ 65535 → unsigned_abs (a -ℤ b) ≤ 65535
near_both o a b oa ob na nb = omega (arith, ints)

pair_near : (get : Point → ℤ) (points : List Point) (p q : Point) → Contains points p → Contains points q → NearLeast get points p → NearLeast get points q → unsigned_abs (get p -ℤ get q) ≤ 65535
pair_near get points p q p_at q_at p_near q_near =
    let below = least_below get points in
    near_both (least (map get points)) (get p) (get q) (at_item (λ (r : Point). int_le (least (map get points)) (get r)) points p below p_at) (at_item (λ (r : Point). int_le (least (map get points)) (get r)) points q below q_at) p_near q_near

some_there : (points : List Point) (p : Point) → Contains points p → 1 ≤ length points
some_there points p at = omega (arith, at.1)

least_near : (get : Point → ℤ) (points : List Point) (p : Point) → Contains points p → ((q : Point) → Contains points q → unsigned_abs (get p -ℤ get q) ≤ 65535) → NearLeast get points p
least_near get points p at near =
    let there = some_item (λ (r : Point). int_eq (get r) (least (map get points))) points (least_reached get points (some_there points p at)) in
    let is : get there.0 ≡ least (map get points) = (Decides-int_eq (get there.0) (least (map get points))).0 there.2 in
    subst (λ (z : ℤ). unsigned_abs (get p -ℤ z) ≤ 65535) is (near there.0 there.1)

-- ---- all axes

record NearOrigin (points : List Point) (p : Point) : Type 0 where
  x : NearLeast (λ (q : Point). q.x) points p
  y : NearLeast (λ (q : Point). q.y) points p
  z : NearLeast (λ (q : Point). q.z) points p

near_parts : (points : List Point) (p : Point) → is_near_origin (origin_of points) p ≡ true → NearOrigin points p
unfolding origin_of
near_parts points p h =
    let x_of = unsigned_abs (p.x -ℤ least (map (λ (q : Point). q.x) points)) in
    let y_of = unsigned_abs (p.y -ℤ least (map (λ (q : Point). q.y) points)) in
    let z_of = unsigned_abs (p.z -ℤ least (map (λ (q : Point). q.z) points)) in
    let parts = and_parts (leb x_of 65535 && leb y_of 65535) (leb z_of 65535) h in
    let first = and_parts (leb x_of 65535) (leb y_of 65535) parts.0 in
    record { x = leb-true x_of 65535 first.0; y = leb-true y_of 65535 first.1; z = leb-true z_of 65535 parts.1 }

near_whole : (points : List Point) (p : Point) → NearOrigin points p → is_near_origin (origin_of points) p ≡ true
unfolding origin_of
near_whole points p h =
    let x_of = unsigned_abs (p.x -ℤ least (map (λ (q : Point). q.x) points)) in
    let y_of = unsigned_abs (p.y -ℤ least (map (λ (q : Point). q.y) points)) in
    let z_of = unsigned_abs (p.z -ℤ least (map (λ (q : Point). q.z) points)) in
    and_from (leb x_of 65535 && leb y_of 65535) (leb z_of 65535) (and_from (leb x_of 65535) (leb y_of 65535) (le-leb x_of 65535 h.x) (le-leb y_of 65535 h.y)) (le-leb z_of 65535 h.z)

pub near_from_narrow : (points : List Point) → is_narrow 2 points ≡ true → AllNear points
near_from_narrow points h p q p_at q_at =
    let one = near_parts points p (at_item (is_near_origin (origin_of points)) points p h p_at) in
    let other = near_parts points q (at_item (is_near_origin (origin_of points)) points q h q_at) in
    record {
      x = pair_near (λ (r : Point). r.x) points p q p_at q_at one.x other.x;
      y = pair_near (λ (r : Point). r.y) points p q p_at q_at one.y other.y;
      z = pair_near (λ (r : Point). r.z) points p q p_at q_at one.z other.z;
    }

pub narrow_from_near : (points : List Point) → AllNear points → is_narrow 2 points ≡ true
narrow_from_near points near =
    from_items (is_near_origin (origin_of points)) points (λ p at. near_whole points p (record {
      x = least_near (λ (r : Point). r.x) points p at (λ q q_at. (near p q at q_at).x);
      y = least_near (λ (r : Point). r.y) points p at (λ q q_at. (near p q at q_at).y);
      z = least_near (λ (r : Point). r.z) points p at (λ q q_at. (near p q at q_at).z);
    }))

pub narrow_is_near : (points : List Point) → (is_narrow 2 points ≡ true) ↔ AllNear points
narrow_is_near points = (near_from_narrow points, narrow_from_near points)
