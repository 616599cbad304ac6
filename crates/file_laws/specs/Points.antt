-- The points of a body, in both versions: what is read is spelled so, and what is spelled so is read.
use Rattle.std.proofs.Common.{◌≡◌, ℕ, ◌^◌, ◌<◌, ◌≤◌, Bool, true, false, ◌&&◌, eqb, leb, ltb, List, ◌++◌, length, take, drop, Ok, refl, sym, ap, subst, ◌∙◌, append_assoc, arith, inl, inr}
use Rattle.std.specs.Prelude.{ℤ, pos, ◌+ℤ◌, ◌-ℤ◌, int_le, unsigned_abs, IsTrue}
use Rattle.std.specs.List.{flat_map, list_all, list_any}
use Rattle.std.specs.Ordering.{int_eq}
use Rattle.std.proofs.lemmas.Bool.{and_parts, and_from, cases_Bool, leb-true, le-leb, ltb-false, le-ltb}
use Rattle.std.proofs.lemmas.List.{drop_at, length-append}
use Rattle.grid_vertex.specs.declared.points.Point.{Point}
use Rattle.grid_vertex.specs.Points.{is_in_grid}
use Rattle.file_model.specs.declared.faults.FileFault.TheVariants.{Truncated, PointOutOfGrid, Loose}
use Rattle.file_model.specs.Numbers.{number_text, number_in}
use Rattle.file_model.specs.Spelling.{point_text, origin_of, offset_text, points_text}
use Rattle.file_model.specs.Reading.{many_at, point_in, shifted_in, point_at, shifted_at, tight, shifted_points_at, points_at}
use Rattle.file_model.specs.Rules.{is_near_origin, is_narrow}
use Rattle.file_laws.specs.Numbers.{IsBytes, IsBytes-drop, length-number_text, number_in-text, number_in-fits}
use Rattle.file_laws.specs.Units.{regroup_three, second_of_three, third_of_three, three_numbers-in, length-point_text, point_in-text, point_text-in}
use Rattle.file_laws.specs.Steps.{step_ok, test_ok, rule_ok, ok_is, Takes, Takes-then, Takes-front, all_both, all_left, all_right, UnitTakes, UnitAgain, many_take, many_again}
use Rattle.file_laws.specs.Origins.{is_past, past_back, past_gap, past_le, origin_below, origin_in_grid, IsReached, origin_reached, origin_is}

-- ---- offsets

-- the point lies at most 65,535 past the origin on each axis, and nowhere before it
abbrev pub is_offset : Point → Point → Bool
is_offset origin p = is_near_origin origin p && is_past origin p

pub length-offset_text : (origin p : Point) → length (offset_text origin p) ≡ 6
unfolding offset_text
length-offset_text origin p =
    let x = unsigned_abs (p.x -ℤ origin.x) in
    let y = unsigned_abs (p.y -ℤ origin.y) in
    let z = unsigned_abs (p.z -ℤ origin.z) in
    length-append (number_text 2 x) _ ∙ omega (arith, length-append (number_text 2 y) (number_text 2 z), length-number_text 2 x, length-number_text 2 y, length-number_text 2 z)

fits_two : (n : ℕ) → IsTrue (leb n 65535) → n < 256 ^ 2
fits_two n h = omega (arith, leb-true n 65535 h)

pub shifted_in-text : (origin p : Point) (rest : List ℕ) → IsTrue (is_offset origin p) → shifted_in origin (offset_text origin p ++ rest) ≡ p
unfolding offset_text
shifted_in-text origin p rest h =
    let x = unsigned_abs (p.x -ℤ origin.x) in
    let y = unsigned_abs (p.y -ℤ origin.y) in
    let z = unsigned_abs (p.z -ℤ origin.z) in
    let parts = and_parts (is_near_origin origin p) (is_past origin p) h in
    let near = and_parts (leb x 65535 && leb y 65535) (leb z 65535) parts.0 in
    let near_xy = and_parts (leb x 65535) (leb y 65535) near.0 in
    let past = and_parts (int_le origin.x p.x && int_le origin.y p.y) (int_le origin.z p.z) parts.1 in
    let past_xy = and_parts (int_le origin.x p.x) (int_le origin.y p.y) past.0 in
    ap (shifted_in origin) (regroup_three (number_text 2 x) (number_text 2 y) (number_text 2 z) rest)
    ∙ rw (second_of_three x y z rest, third_of_three x y z rest, number_in-text 2 x (number_text 2 y ++ (number_text 2 z ++ rest)) (fits_two x near_xy.0), number_in-text 2 y (number_text 2 z ++ rest) (fits_two y near_xy.1), number_in-text 2 z rest (fits_two z near.1), past_back origin.x p.x past_xy.0, past_back origin.y p.y past_xy.1, past_back origin.z p.z past.1) refl

pub offset_text-in : (origin : Point) (bytes : List ℕ) → IsBytes bytes → 6 ≤ length bytes → offset_text origin (shifted_in origin bytes) ≡ take 6 bytes
unfolding offset_text
offset_text-in origin bytes fits long =
    rw (past_gap origin.x (number_in 2 bytes), past_gap origin.y (number_in 2 (drop 2 bytes)), past_gap origin.z (number_in 2 (drop 4 bytes))) (three_numbers-in bytes fits long)

gap_fits : (o : ℤ) (bytes : List ℕ) → IsBytes bytes → IsTrue (leb (unsigned_abs ((o +ℤ pos (number_in 2 bytes)) -ℤ o)) 65535)
gap_fits o bytes fits =
    let below = number_in-fits 2 bytes fits in
    rw (past_gap o (number_in 2 bytes)) (le-leb (number_in 2 bytes) 65535 (omega arith))

pub shifted_in-is : (origin : Point) (bytes : List ℕ) → IsBytes bytes → IsTrue (is_offset origin (shifted_in origin bytes))
shifted_in-is origin bytes fits =
    let p = shifted_in origin bytes in
    let near : IsTrue (is_near_origin origin p) = and_from _ _ (and_from _ _ (gap_fits origin.x bytes fits) (gap_fits origin.y (drop 2 bytes) (IsBytes-drop 2 bytes fits))) (gap_fits origin.z (drop 4 bytes) (IsBytes-drop 4 bytes fits)) in
    let past : IsTrue (is_past origin p) = and_from _ _ (and_from _ _ (past_le origin.x (number_in 2 bytes)) (past_le origin.y (number_in 2 (drop 2 bytes)))) (past_le origin.z (number_in 2 (drop 4 bytes))) in
    and_from (is_near_origin origin p) (is_past origin p) near past

-- ---- one point

point_takes : (patch end : ℕ) → UnitTakes (point_at patch end) point_text is_in_grid
unfolding point_at
point_takes patch end k bytes x fits e =
    let t = test_ok (ltb (length bytes) 12) (Truncated end) _ x e in
    let r = rule_ok (is_in_grid (point_in bytes)) (PointOutOfGrid patch k) _ x t.1 in
    let made : Point × List ℕ = (point_in bytes, drop 12 bytes) in
    let took = Takes-front 12 bytes (point_text (point_in bytes)) fits (point_text-in bytes fits (ltb-false (length bytes) 12 t.0)) in
    subst (λ (y : Point × List ℕ). Takes bytes (point_text y.0) y.1 × IsTrue (is_in_grid y.0)) (ok_is made x r.1) (took, r.0)

point_again : (patch end : ℕ) → UnitAgain (point_at patch end) point_text is_in_grid
unfolding point_at
point_again patch end k p rest h =
    let long : ltb (length (point_text p ++ rest)) 12 ≡ false = le-ltb _ 12 (omega (arith, length-append (point_text p) rest, length-point_text p)) in
    let back = point_in-text p rest h in
    rw (long, ap is_in_grid back ∙ h, back, drop_at (point_text p) rest 12 (length-point_text p)) refl

-- a point of the grid at an offset from the origin
abbrev is_grid_offset : Point → Point → Bool
is_grid_offset origin p = is_in_grid p && is_offset origin p

shifted_takes : (origin : Point) (patch end : ℕ) → UnitTakes (shifted_at origin patch end) (offset_text origin) (is_grid_offset origin)
unfolding shifted_at
shifted_takes origin patch end k bytes x fits e =
    let p = shifted_in origin bytes in
    let t = test_ok (ltb (length bytes) 6) (Truncated end) _ x e in
    let r = rule_ok (is_in_grid p) (PointOutOfGrid patch k) _ x t.1 in
    let made : Point × List ℕ = (p, drop 6 bytes) in
    let took = Takes-front 6 bytes (offset_text origin p) fits (offset_text-in origin bytes fits (ltb-false (length bytes) 6 t.0)) in
    let passes = and_from (is_in_grid p) (is_offset origin p) r.0 (shifted_in-is origin bytes fits) in
    subst (λ (y : Point × List ℕ). Takes bytes (offset_text origin y.0) y.1 × IsTrue (is_grid_offset origin y.0)) (ok_is made x r.1) (took, passes)

shifted_again : (origin : Point) (patch end : ℕ) → UnitAgain (shifted_at origin patch end) (offset_text origin) (is_grid_offset origin)
unfolding shifted_at
shifted_again origin patch end k p rest h =
    let parts = and_parts (is_in_grid p) (is_offset origin p) h in
    let long : ltb (length (offset_text origin p ++ rest)) 6 ≡ false = le-ltb _ 6 (omega (arith, length-append (offset_text origin p) rest, length-offset_text origin p)) in
    let back = shifted_in-text origin p rest parts.1 in
    rw (long, ap is_in_grid back ∙ parts.0, back, drop_at (offset_text origin p) rest 6 (length-offset_text origin p)) refl

-- ---- the points of a body

tight_ok : (origin : Point) (patch : ℕ) (x y : List Point × List ℕ) → tight origin patch x ≡ Ok y → IsReached origin x.0 × (x ≡ y)
unfolding tight
tight_ok origin patch x y e =
    let a = rule_ok (list_any (λ (p : Point). int_eq p.x origin.x) x.0) (Loose patch 0) _ y e in
    let b = rule_ok (list_any (λ (p : Point). int_eq p.y origin.y) x.0) (Loose patch 1) _ y a.1 in
    let c = rule_ok (list_any (λ (p : Point). int_eq p.z origin.z) x.0) (Loose patch 2) _ y b.1 in
    (record { x = a.0; y = b.0; z = c.0 }, ok_is x y c.1)

tight_again : (origin : Point) (patch : ℕ) (x : List Point × List ℕ) → IsReached origin x.0 → tight origin patch x ≡ Ok x
unfolding tight
tight_again origin patch x h = rw (h.x, h.y, h.z) refl

-- the rules on the points of a body
pub record ArePoints (version count : ℕ) (points : List Point) : Type 0 where
  pub in_grid : IsTrue (list_all is_in_grid points)
  pub narrow : IsTrue (is_narrow version points)
  pub counted : length points ≡ count

-- the points that were read, and that they are spelled so
pub record TakesPoints (version count : ℕ) (bytes : List ℕ) (x : List Point × List ℕ) : Type 0 where
  pub takes : Takes bytes (points_text version x.0) x.1
  pub are : ArePoints version count x.0

plain_text : (version : ℕ) (points : List Point) → eqb version 2 ≡ false → points_text version points ≡ flat_map point_text points
unfolding points_text
plain_text version points v = rw v refl

offsets_text : (version : ℕ) (points : List Point) → eqb version 2 ≡ true → points_text version points ≡ point_text (origin_of points) ++ flat_map (offset_text (origin_of points)) points
unfolding points_text
offsets_text version points v = rw v refl

plain_take : (version count patch end : ℕ) (bytes : List ℕ) (x : List Point × List ℕ) → IsBytes bytes → eqb version 2 ≡ false → many_at (point_at patch end) count 0 bytes ≡ Ok x → TakesPoints version count bytes x
plain_take version count patch end bytes x fits v e =
    let m = many_take (point_at patch end) point_text is_in_grid (point_takes patch end) count 0 bytes x fits e in
    record { takes = rw (plain_text version x.0 v) m.takes; are = record { in_grid = m.pass; narrow = rw v refl; counted = m.count } }

offsets_take : (version count patch end : ℕ) (bytes : List ℕ) (x : List Point × List ℕ) → IsBytes bytes → eqb version 2 ≡ true → shifted_points_at count patch end bytes ≡ Ok x → TakesPoints version count bytes x
unfolding shifted_points_at
offsets_take version count patch end bytes x fits v e =
    let origin = point_in bytes in
    let t = test_ok (ltb (length bytes) 12) (Truncated end) _ x e in
    let a = step_ok (many_at (shifted_at origin patch end) count 0 (drop 12 bytes)) (tight origin patch) x t.1 in
    let c = tight_ok origin patch a.0 x a.2 in
    let front = Takes-front 12 bytes (point_text origin) fits (point_text-in bytes fits (ltb-false (length bytes) 12 t.0)) in
    let m = many_take (shifted_at origin patch end) (offset_text origin) (is_grid_offset origin) (shifted_takes origin patch end) count 0 (drop 12 bytes) a.0 front.rest_fits a.1 in
    let offsets = all_right is_in_grid (is_offset origin) a.0.0 m.pass in
    let least = origin_is origin a.0.0 (all_right (is_near_origin origin) (is_past origin) a.0.0 offsets) c.0 in
    let took : Takes bytes (point_text origin ++ flat_map (offset_text origin) a.0.0) a.0.1 = Takes-then bytes (point_text origin) (drop 12 bytes) (flat_map (offset_text origin) a.0.0) a.0.1 front m.takes in
    let spelled : point_text origin ++ flat_map (offset_text origin) a.0.0 ≡ points_text version a.0.0 = sym (offsets_text version a.0.0 v ∙ ap (λ (o : Point). point_text o ++ flat_map (offset_text o) a.0.0) least) in
    let near : IsTrue (list_all (is_near_origin (origin_of a.0.0)) a.0.0) = subst (λ (o : Point). IsTrue (list_all (is_near_origin o) a.0.0)) (sym least) (all_left (is_near_origin origin) (is_past origin) a.0.0 offsets) in
    subst (TakesPoints version count bytes) c.1 (record {
      takes = subst (λ (text : List ℕ). Takes bytes text a.0.1) spelled took;
      are = record { in_grid = all_left is_in_grid (is_offset origin) a.0.0 m.pass; narrow = rw v near; counted = m.count };
    })

pub points_take : (version count patch end : ℕ) (bytes : List ℕ) (x : List Point × List ℕ) → IsBytes bytes → points_at version count patch end bytes ≡ Ok x → TakesPoints version count bytes x
unfolding points_at
points_take version count patch end bytes x fits e =
    elim (cases_Bool (eqb version 2)) [
      | inl v ↦ offsets_take version count patch end bytes x fits v (rw v at e)
      | inr v ↦ plain_take version count patch end bytes x fits v (rw v at e)
    ]

offsets_again : (version patch end : ℕ) (points : List Point) (rest : List ℕ) → eqb version 2 ≡ true → IsTrue (list_all is_in_grid points) → IsTrue (is_narrow version points) → 1 ≤ length points → shifted_points_at (length points) patch end (points_text version points ++ rest) ≡ Ok (points, rest)
unfolding shifted_points_at
offsets_again version patch end points rest v in_grid narrow some_point =
    let origin = origin_of points in
    let behind = flat_map (offset_text origin) points in
    let near : IsTrue (list_all (is_near_origin origin) points) = rw v at narrow in
    let passes = all_both is_in_grid (is_offset origin) points in_grid (all_both (is_near_origin origin) (is_past origin) points near (origin_below points)) in
    let spelled : points_text version points ++ rest ≡ point_text origin ++ (behind ++ rest) = ap (λ (t : List ℕ). t ++ rest) (offsets_text version points v) ∙ append_assoc (point_text origin) behind rest in
    let long : ltb (length (point_text origin ++ (behind ++ rest))) 12 ≡ false = le-ltb _ 12 (omega (arith, length-append (point_text origin) (behind ++ rest), length-point_text origin)) in
    let back : point_in (point_text origin ++ (behind ++ rest)) ≡ origin = point_in-text origin (behind ++ rest) (origin_in_grid points in_grid) in
    let read : many_at (shifted_at origin patch end) (length points) 0 (behind ++ rest) ≡ Ok (points, rest) = many_again (shifted_at origin patch end) (offset_text origin) (is_grid_offset origin) (shifted_again origin patch end) 0 points rest passes in
    ap (shifted_points_at (length points) patch end) spelled
    ∙ rw (long, back, drop_at (point_text origin) (behind ++ rest) 12 (length-point_text origin), read) (tight_again origin patch (points, rest) (origin_reached points some_point))

pub points_again : (version patch end : ℕ) (points : List Point) (rest : List ℕ) → IsTrue (list_all is_in_grid points) → IsTrue (is_narrow version points) → 1 ≤ length points → points_at version (length points) patch end (points_text version points ++ rest) ≡ Ok (points, rest)
unfolding points_at
points_again version patch end points rest in_grid narrow some_point =
    elim (cases_Bool (eqb version 2)) [
      | inl v ↦ rw v (offsets_again version patch end points rest v in_grid narrow some_point)
      | inr v ↦ rw (v, plain_text version points v) (many_again (point_at patch end) point_text is_in_grid (point_again patch end) 0 points rest in_grid)
    ]
