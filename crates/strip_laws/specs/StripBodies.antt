-- The bodies of the strip follow the rules of a patch file in either version.
use Rattle.std.proofs.Common.{◌≡◌, ℕ, ◌+◌, ◌*◌, ◌<◌, ◌≤◌, Bool, true, false, not, ◌&&◌, ◌||◌, cond, leb, List, [], ◌∷◌, map, ℤ, pos, refl, sym, subst, arith}
use Rattle.std.specs.Prelude.{◌==◌, ◌-ℤ◌, unsigned_abs, int_lt}
use Rattle.std.specs.Int.{int_min}
use Rattle.std.specs.Ordering.{int_eq}
use Rattle.std.specs.List.{AllByRecursion, fold, list_all}
use Rattle.std.proofs.lemmas.Bool.{le-leb, and_from, and_parts, or_from, not_from_false, false_from_ne_true}
use Rattle.std.proofs.lemmas.Bool.Decides.{Decides-int_eq}
use Rattle.grid_vertex.specs.declared.points.Point.{Point}
use Rattle.grid_vertex.specs.Points.{is_in_grid, is_same_point}
use Rattle.grid_vertex.specs.Triangles.{is_flat_triangle}
use Rattle.file_model.specs.Lists.{Corners, triangle_of, point_at_place}
use Rattle.file_model.specs.Spelling.{least, origin_of}
use Rattle.file_model.specs.Rules.{is_near_origin, is_narrow, is_triangle, is_body}
use Rattle.mesh_laws.specs.Each.{each_then}
use Rattle.strip_laws.specs.Strip.{flat, low, high, middle, halfway, square_body, left_body, right_body, round_body}
use Rattle.strip_laws.specs.EdgeNets.{tri}
use Rattle.strip_laws.specs.Kinds.{each_map}
use Rattle.strip_laws.specs.StripNodes.{gap_within}

pub all_pass : {X : Type 0} (test : X → Bool) (xs : List X) → AllByRecursion (λ x. test x ≡ true) xs → list_all test xs ≡ true
all_pass test [] h = refl
all_pass test (x ∷ xs) h = and_from (test x) (list_all test xs) h.0 (all_pass test xs h.1)

-- ---- coordinates

-- the coordinate is at least `from` and at most 65,535 past it
record Ranges (from : ℕ) (z : ℤ) : Type 0 where
  at : ℕ
  is : z ≡ pos at
  above : from ≤ at
  below : at ≤ from + 65535

-- the point is in such a range, from `from` on the first axis and from 0 on the others
record Lies (from : ℕ) (p : Point) : Type 0 where
  x : Ranges from p.x
  y : Ranges 0 p.y
  z : Ranges 0 p.z

lies : (from x y : ℕ) → from ≤ x → x ≤ from + 65535 → y ≤ 65535 → Lies from (flat x y)
lies from x y above below short = record {
  x = record { at = x; is = refl; above = above; below = below };
  y = record { at = y; is = refl; above = omega arith; below = omega arith };
  z = record { at = 0; is = refl; above = omega arith; below = omega arith };
}

either_ranges : (from : ℕ) (t : Bool) (a b : ℤ) → Ranges from a → Ranges from b → Ranges from (cond t a b)
either_ranges from true a b h k = h
either_ranges from false a b h k = k

least_ranges : (from : ℕ) (zs : List ℤ) (z : ℤ) → Ranges from z → AllByRecursion (Ranges from) zs → Ranges from (fold int_min z zs)
least_ranges from [] z h k = h
least_ranges from (w ∷ zs) z h k = least_ranges from zs (int_min z w) (either_ranges from (int_lt w z) w z k.0 h) k.1

near : (from : ℕ) (z o : ℤ) → Ranges from z → Ranges from o → unsigned_abs (z -ℤ o) ≤ 65535
near from z o h k = subst (λ (w : ℤ). unsigned_abs (w -ℤ o) ≤ 65535) (sym h.is) (subst (λ (w : ℤ). unsigned_abs (pos h.at -ℤ w) ≤ 65535) (sym k.is) (gap_within h.at k.at 65535 (omega (arith, h.below, k.above)) (omega (arith, h.above, k.below))))

near_by : (from : ℕ) (o p : Point) → Lies from o → Lies from p → is_near_origin o p ≡ true
near_by from o p h k =
    let x = near from p.x o.x k.x h.x in
    let y = near 0 p.y o.y k.y h.y in
    let z = near 0 p.z o.z k.z h.z in
    and_from (leb (unsigned_abs (p.x -ℤ o.x)) 65535 && leb (unsigned_abs (p.y -ℤ o.y)) 65535) (leb (unsigned_abs (p.z -ℤ o.z)) 65535)
    (and_from (leb (unsigned_abs (p.x -ℤ o.x)) 65535) (leb (unsigned_abs (p.y -ℤ o.y)) 65535) (le-leb (unsigned_abs (p.x -ℤ o.x)) 65535 x) (le-leb (unsigned_abs (p.y -ℤ o.y)) 65535 y))
    (le-leb (unsigned_abs (p.z -ℤ o.z)) 65535 z)

least_of : (from : ℕ) (at : Point → ℤ) (p : Point) (ps : List Point) → AllByRecursion (λ q. Ranges from (at q)) (p ∷ ps) → Ranges from (least (map at (p ∷ ps)))
least_of from at p ps h = least_ranges from (map at ps) (at p) h.0 (each_map (Ranges from) at ps h.1)

origin_lies : (from : ℕ) (p : Point) (ps : List Point) → AllByRecursion (Lies from) (p ∷ ps) → Lies from (origin_of (p ∷ ps))
unfolding origin_of
origin_lies from p ps h = record {
  x = least_of from (λ (q : Point). q.x) p ps (each_then (Lies from) (λ q. Ranges from q.x) (p ∷ ps) (λ q l. l.x) h);
  y = least_of 0 (λ (q : Point). q.y) p ps (each_then (Lies from) (λ q. Ranges 0 q.y) (p ∷ ps) (λ q l. l.y) h);
  z = least_of 0 (λ (q : Point). q.z) p ps (each_then (Lies from) (λ q. Ranges 0 q.z) (p ∷ ps) (λ q l. l.z) h);
}

if_version : (t x : Bool) → x ≡ true → cond t x true ≡ true
if_version true x e = e
if_version false x e = refl

narrow : (version from : ℕ) (p : Point) (ps : List Point) → AllByRecursion (Lies from) (p ∷ ps) → is_narrow version (p ∷ ps) ≡ true
narrow version from p ps h =
    if_version (version == 2) (list_all (is_near_origin (origin_of (p ∷ ps))) (p ∷ ps))
    (all_pass (is_near_origin (origin_of (p ∷ ps))) (p ∷ ps) (each_then (Lies from) (λ q. is_near_origin (origin_of (p ∷ ps)) q ≡ true) (p ∷ ps) (λ q l. near_by from (origin_of (p ∷ ps)) q (origin_lies from p ps h) l) h))

-- ---- the grid

on_axis : (from : ℕ) (z : ℤ) → from ≤ 983041 → Ranges from z → leb (unsigned_abs z) 1048576 ≡ true
on_axis from z early h = subst (λ (w : ℤ). leb (unsigned_abs w) 1048576 ≡ true) (sym h.is) (le-leb h.at 1048576 (omega (arith, h.below)))

grid_by : (from : ℕ) (p : Point) → from ≤ 983041 → Lies from p → is_in_grid p ≡ true
grid_by from p early h =
    and_from (leb (unsigned_abs p.x) 1048576 && leb (unsigned_abs p.y) 1048576) (leb (unsigned_abs p.z) 1048576)
    (and_from (leb (unsigned_abs p.x) 1048576) (leb (unsigned_abs p.y) 1048576) (on_axis from p.x early h.x) (on_axis 0 p.y (omega arith) h.y))
    (on_axis 0 p.z (omega arith) h.z)

-- a body whose points lie so, with good triangles
body_by : (version from : ℕ) (p : Point) (ps : List Point) (ts : List Corners) → from ≤ 983041 → AllByRecursion (Lies from) (p ∷ ps) → list_all (is_triangle (p ∷ ps)) ts ≡ true → is_body version (record { points = p ∷ ps; corners = ts }) ≡ true
unfolding is_body
body_by version from p ps ts early h good =
    and_from (list_all is_in_grid (p ∷ ps) && is_narrow version (p ∷ ps)) (list_all (is_triangle (p ∷ ps)) ts)
    (and_from (list_all is_in_grid (p ∷ ps)) (is_narrow version (p ∷ ps))
    (all_pass is_in_grid (p ∷ ps) (each_then (Lies from) (λ q. is_in_grid q ≡ true) (p ∷ ps) (λ q l. grid_by from q early l) h))
    (narrow version from p ps h))
    good

-- ---- triangles

int_apart : (x x' : ℕ) → int_eq (pos x) (pos x') ≡ true → x ≡ x'
int_apart x x' h = let same = (Decides-int_eq (pos x) (pos x')).0 h in cc

differ : (x y x' y' : ℕ) → (x ≡ x' → y ≡ y' → ⊥) → is_same_point (flat x y) (flat x' y') ≡ false
differ x y x' y' apart =
    false_from_ne_true (is_same_point (flat x y) (flat x' y')) (λ h.
    let xy = and_parts (int_eq (pos x) (pos x')) (int_eq (pos y) (pos y')) (and_parts (int_eq (pos x) (pos x') && int_eq (pos y) (pos y')) (int_eq (pos 0) (pos 0)) h).0 in
    apart (int_apart x x' xy.0) (int_apart y y' xy.1))

not_flat : (p q r : Point) → is_same_point p q ≡ false → is_same_point q r ≡ false → is_same_point r p ≡ false → not (is_flat_triangle (tri p q r)) ≡ true
unfolding is_flat_triangle
not_flat p q r a b c =
    not_from_false (is_same_point p q || is_same_point q r || is_same_point r p) (or_from (is_same_point p q || is_same_point q r) (is_same_point r p) (or_from (is_same_point p q) (is_same_point q r) a b) c)

-- a triangle whose corners differ in x or in y
good : (x y x' y' x'' y'' : ℕ) → (x ≡ x' → y ≡ y' → ⊥) → (x' ≡ x'' → y' ≡ y'' → ⊥) → (x'' ≡ x → y'' ≡ y → ⊥) → not (is_flat_triangle (tri (flat x y) (flat x' y') (flat x'' y''))) ≡ true
good x y x' y' x'' y'' a b c = not_flat (flat x y) (flat x' y') (flat x'' y'') (differ x y x' y' a) (differ x' y' x'' y'' b) (differ x'' y'' x y c)

square_good : (i : ℕ) → list_all (is_triangle (square_body i).points) (square_body i).corners ≡ true
unfolding triangle_of point_at_place
square_good i =
    all_pass (is_triangle (square_body i).points) (square_body i).corners (
      good (4 * i) 0 (4 * (i + 1)) 0 (4 * (i + 1)) 4 (λ x y. absurd (omega arith)) (λ x y. absurd (omega arith)) (λ x y. absurd (omega arith)),
      (good (4 * i) 0 (4 * (i + 1)) 4 (4 * i) 4 (λ x y. absurd (omega arith)) (λ x y. absurd (omega arith)) (λ x y. absurd (omega arith)), tt),
    )

left_good : (i : ℕ) → list_all (is_triangle (left_body i).points) (left_body i).corners ≡ true
unfolding triangle_of point_at_place
left_good i =
    all_pass (is_triangle (left_body i).points) (left_body i).corners (
      good (4 * i) 4 (4 * i) 0 (4 * i + 2) 2 (λ x y. absurd (omega arith)) (λ x y. absurd (omega arith)) (λ x y. absurd (omega arith)),
      (good (4 * i) 0 (4 * (i + 1)) 0 (4 * i + 2) 2 (λ x y. absurd (omega arith)) (λ x y. absurd (omega arith)) (λ x y. absurd (omega arith)), tt),
    )

right_good : (i : ℕ) → list_all (is_triangle (right_body i).points) (right_body i).corners ≡ true
unfolding triangle_of point_at_place
right_good i =
    all_pass (is_triangle (right_body i).points) (right_body i).corners (
      good (4 * (i + 1)) 0 (4 * (i + 1)) 4 (4 * i + 2) 2 (λ x y. absurd (omega arith)) (λ x y. absurd (omega arith)) (λ x y. absurd (omega arith)),
      (good (4 * (i + 1)) 4 (4 * i) 4 (4 * i + 2) 2 (λ x y. absurd (omega arith)) (λ x y. absurd (omega arith)) (λ x y. absurd (omega arith)), tt),
    )

-- the edge h stands left of edge i
round_good : (h i : ℕ) → h + 1 ≡ i → list_all (is_triangle (round_body h i).points) (round_body h i).corners ≡ true
unfolding triangle_of point_at_place
round_good h i next =
    all_pass (is_triangle (round_body h i).points) (round_body h i).corners (
      good (4 * i) 0 (4 * i) 2 (4 * h + 2) 2 (λ x y. absurd (omega arith)) (λ x y. absurd (omega arith)) (λ x y. absurd (omega arith)),
      (
        good (4 * i) 2 (4 * i) 4 (4 * h + 2) 2 (λ x y. absurd (omega arith)) (λ x y. absurd (omega arith)) (λ x y. absurd (omega arith)),
        (
          good (4 * i) 4 (4 * h) 4 (4 * h + 2) 2 (λ x y. absurd (omega arith)) (λ x y. absurd (omega arith)) (λ x y. absurd (omega arith)),
          (
            good (4 * i) 4 (4 * i) 2 (4 * i + 2) 2 (λ x y. absurd (omega arith)) (λ x y. absurd (omega arith)) (λ x y. absurd (omega arith)),
            (
              good (4 * i) 2 (4 * i) 0 (4 * i + 2) 2 (λ x y. absurd (omega arith)) (λ x y. absurd (omega arith)) (λ x y. absurd (omega arith)),
              (good (4 * i) 0 (4 * (i + 1)) 0 (4 * i + 2) 2 (λ x y. absurd (omega arith)) (λ x y. absurd (omega arith)) (λ x y. absurd (omega arith)), tt),
            ),
          ),
        ),
      ),
    )

-- ---- bodies

pub square_is_body : (version i : ℕ) → i < 16384 → is_body version (square_body i) ≡ true
square_is_body version i less =
    body_by version (4 * i) (low i) (low (i + 1) ∷ high (i + 1) ∷ high i ∷ []) (square_body i).corners (omega arith)
    (lies (4 * i) (4 * i) 0 (omega arith) (omega arith) (omega arith), (lies (4 * i) (4 * (i + 1)) 0 (omega arith) (omega arith) (omega arith), (lies (4 * i) (4 * (i + 1)) 4 (omega arith) (omega arith) (omega arith), (lies (4 * i) (4 * i) 4 (omega arith) (omega arith) (omega arith), tt))))
    (square_good i)

pub left_is_body : (version i : ℕ) → i < 16384 → is_body version (left_body i) ≡ true
left_is_body version i less =
    body_by version (4 * i) (low i) (low (i + 1) ∷ high i ∷ middle i ∷ []) (left_body i).corners (omega arith)
    (lies (4 * i) (4 * i) 0 (omega arith) (omega arith) (omega arith), (lies (4 * i) (4 * (i + 1)) 0 (omega arith) (omega arith) (omega arith), (lies (4 * i) (4 * i) 4 (omega arith) (omega arith) (omega arith), (lies (4 * i) (4 * i + 2) 2 (omega arith) (omega arith) (omega arith), tt))))
    (left_good i)

pub right_is_body : (version i : ℕ) → i < 16384 → is_body version (right_body i) ≡ true
right_is_body version i less =
    body_by version (4 * i) (low (i + 1)) (high (i + 1) ∷ high i ∷ middle i ∷ []) (right_body i).corners (omega arith)
    (lies (4 * i) (4 * (i + 1)) 0 (omega arith) (omega arith) (omega arith), (lies (4 * i) (4 * (i + 1)) 4 (omega arith) (omega arith) (omega arith), (lies (4 * i) (4 * i) 4 (omega arith) (omega arith) (omega arith), (lies (4 * i) (4 * i + 2) 2 (omega arith) (omega arith) (omega arith), tt))))
    (right_good i)

pub round_is_body : (version h i : ℕ) → h + 1 ≡ i → i < 16384 → is_body version (round_body h i) ≡ true
round_is_body version h i next less =
    body_by version (4 * h) (low i) (high i ∷ high h ∷ middle h ∷ low (i + 1) ∷ middle i ∷ halfway i ∷ []) (round_body h i).corners (omega arith) (
      lies (4 * h) (4 * i) 0 (omega arith) (omega arith) (omega arith),
      (
        lies (4 * h) (4 * i) 4 (omega arith) (omega arith) (omega arith),
        (
          lies (4 * h) (4 * h) 4 (omega arith) (omega arith) (omega arith),
          (
            lies (4 * h) (4 * h + 2) 2 (omega arith) (omega arith) (omega arith),
            (lies (4 * h) (4 * (i + 1)) 0 (omega arith) (omega arith) (omega arith), (lies (4 * h) (4 * i + 2) 2 (omega arith) (omega arith) (omega arith), (lies (4 * h) (4 * i) 2 (omega arith) (omega arith) (omega arith), tt))),
          ),
        ),
      ),
    )
    (round_good h i next)
