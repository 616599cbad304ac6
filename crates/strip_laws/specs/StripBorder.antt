-- The border of the strip: its left end, then its bottom and top edges by column, and its right end. It has
-- the open edges of the base, and so of every frame.
use Rattle.std.proofs.Common.{◌≡◌, ℕ, zero, suc, ◌+◌, ◌-◌, ◌*◌, ◌<◌, ◌≤◌, Bool, true, false, ◌&&◌, ◌||◌, List, [], ◌∷◌, length, map, pos, refl, sym, ap, subst, ◌∙◌, arith}
use Rattle.std.specs.Prelude.{◌-ℤ◌, int_lt}
use Rattle.std.specs.Ordering.{int_eq}
use Rattle.std.specs.List.{AllByRecursion, flat_map, range_with_len}
use Rattle.std.proofs.lemmas.Int.{ints}
use Rattle.std.proofs.lemmas.Bool.{and_parts, and_from, or_left, or_right, false_from_ne_true}
use Rattle.std.proofs.lemmas.List.{length-map}
use Rattle.grid_vertex.specs.declared.points.Point.{Point}
use Rattle.grid_vertex.specs.declared.triangles.Triangle.{Triangle}
use Rattle.grid_vertex.specs.Points.{is_same_point}
use Rattle.file_model.specs.Lists.{triangle_of, triangles_from, point_at_place}
use Rattle.file_model.specs.Rules.{is_version}
use Rattle.mesh_model.specs.Nets.{one_if, is_edge, net, is_before, Pair, is_forward, is_pair_before, Ascend, AreOpen, HasOpenPairs}
use Rattle.mesh_model.specs.Orders.{before_one_way, point_exact}
use Rattle.mesh_model.specs.Frames.{IsCut}
use Rattle.mesh_model.specs.Accepted.{triangles_out_of}
use Rattle.mesh_laws.specs.Boundary.{boundary}
use Rattle.mesh_laws.specs.Frames.{frame_of_set}
use Rattle.mesh_laws.specs.OpenEdges.{open_of_one_net}
use Rattle.strip_laws.specs.Strip.{flat, low, high, square, strip_patches, fields_of, strip_file}
use Rattle.strip_laws.specs.Picks.{own}
use Rattle.strip_laws.specs.EdgeNets.{tri, seen, turned, times_none, times_of}
use Rattle.strip_laws.specs.StripRules.{strip_index, strip_is_accepted}
use Rattle.strip_laws.specs.StripFrames.{base_is}
use Rattle.strip_laws.specs.Borders.{Border, border, pairs_of, ups, downs, int_itself, contained, open_from_borders}

-- the border of n columns from edge a on, but for the left end
unfoldable pub border_from : ℕ → ℕ → List Border
border_from zero a = border (low a) (high a) true ∷ []
border_from (suc n) a = border (low a) (low (a + 1)) true ∷ (border (high a) (high (a + 1)) false ∷ border_from n (a + 1))

abbrev pub strip_border : ℕ → List Border
strip_border c = border (low 0) (high 0) false ∷ border_from c 0

border_length : (n a : ℕ) → length (border_from n a) ≡ 2 * n + 1
unfolding border_from
border_length zero a = refl
border_length (suc n) a = let rest : length (border_from n (a + 1)) ≡ 2 * n + 1 = border_length n (a + 1) in omega arith

-- ---- order

int_less : (x y : ℕ) → x < y → int_lt (pos x) (pos y) ≡ true
int_less x y less = grind (arith, ints)

by_x : (x y x' y' : ℕ) → x < x' → is_before (flat x y) (flat x' y') ≡ true
by_x x y x' y' less = or_left (int_lt (pos x) (pos x')) (int_eq (pos x) (pos x') && (int_lt (pos y) (pos y') || (int_eq (pos y) (pos y') && int_lt (pos 0) (pos 0)))) (int_less x x' less)

by_y : (x y y' : ℕ) → y < y' → is_before (flat x y) (flat x y') ≡ true
by_y x y y' less =
    or_right (int_lt (pos x) (pos x)) (int_eq (pos x) (pos x) && (int_lt (pos y) (pos y') || (int_eq (pos y) (pos y') && int_lt (pos 0) (pos 0))))
    (and_from (int_eq (pos x) (pos x)) (int_lt (pos y) (pos y') || (int_eq (pos y) (pos y') && int_lt (pos 0) (pos 0))) (int_itself (pos x))
    (or_left (int_lt (pos y) (pos y')) (int_eq (pos y) (pos y') && int_lt (pos 0) (pos 0)) (int_less y y' less)))

by_first : (p q : Pair) → is_before p.a q.a ≡ true → is_pair_before p q ≡ true
by_first p q h = or_left (is_before p.a q.a) (is_same_point p.a q.a && is_before p.b q.b) h

-- the pair's first point stands at edge k or right of it
record StartsAt (k : ℕ) (q : Pair) : Type 0 where
  x : ℕ
  y : ℕ
  is : q.a ≡ flat x y
  right : 4 * k ≤ x

starts : (n k m : ℕ) → m ≤ k → AllByRecursion (StartsAt m) (pairs_of (border_from n k))
unfolding border_from
starts zero k m more = (record { x = 4 * k; y = 0; is = refl; right = omega arith }, tt)
starts (suc n) k m more =
    (record { x = 4 * k; y = 0; is = refl; right = omega arith }, (record { x = 4 * k; y = 4; is = refl; right = omega arith }, starts n (k + 1) m (omega arith)))

before_start : (p : Pair) (x y k : ℕ) → p.a ≡ flat x y → x < 4 * k → (q : Pair) → StartsAt k q → is_pair_before p q ≡ true
before_start p x y k is less q s =
    by_first p q (subst (λ (r : Point). is_before r q.a ≡ true) (sym is) (subst (λ (r : Point). is_before (flat x y) r ≡ true) (sym s.is) (by_x x y s.x s.y (omega (arith, s.right)))))

each_before : (p : Pair) (k : ℕ) (qs : List Pair) → ((q : Pair) → StartsAt k q → is_pair_before p q ≡ true) → AllByRecursion (StartsAt k) qs → AllByRecursion (λ q. is_pair_before p q ≡ true) qs
each_before p k [] step h = tt
each_before p k (q ∷ qs) step h = (step q h.0, each_before p k qs step h.1)

ascend_more : (p : Pair) (ps : List Pair) → AllByRecursion (λ q. is_pair_before p q ≡ true) ps → Ascend ps → Ascend (p ∷ ps)
ascend_more p ps h up = ((λ q at. contained (λ q. is_pair_before p q ≡ true) ps q h at), up)

abbrev pair : Point → Point → Pair
pair a b = record { a = a; b = b }

ascend_from : (n a : ℕ) → Ascend (pairs_of (border_from n a))
unfolding border_from
ascend_from zero a = ascend_more (pair (low a) (high a)) [] tt tt
ascend_from (suc n) a =
    let rest = pairs_of (border_from n (a + 1)) in
    let later = starts n (a + 1) (a + 1) (omega arith) in
    ascend_more (pair (low a) (low (a + 1))) (pair (high a) (high (a + 1)) ∷ rest)
    (by_first (pair (low a) (low (a + 1))) (pair (high a) (high (a + 1))) (by_y (4 * a) 0 4 (omega arith)), each_before (pair (low a) (low (a + 1))) (a + 1) rest (before_start (pair (low a) (low (a + 1))) (4 * a) 0 (a + 1) refl (omega arith)) later)
    (ascend_more (pair (high a) (high (a + 1))) rest (each_before (pair (high a) (high (a + 1))) (a + 1) rest (before_start (pair (high a) (high (a + 1))) (4 * a) 4 (a + 1) refl (omega arith)) later) (ascend_from n (a + 1)))

-- the left end comes before all, where there is a column
ascend_border : (n c : ℕ) → c ≡ suc n → Ascend (pairs_of (strip_border c))
unfolding border_from
ascend_border n zero some = absurd (omega arith)
ascend_border n (suc m) some =
    let rest = pairs_of (border_from m (0 + 1)) in
    let first = pair (low 0) (high 0) in
    let second = pair (low 0) (low (0 + 1)) in
    let third = pair (high 0) (high (0 + 1)) in
    ascend_more first (second ∷ third ∷ rest) (
      or_right (is_before (low 0) (low 0)) (is_same_point (low 0) (low 0) && is_before (high 0) (low (0 + 1))) (by_x 0 4 4 0 (omega arith)),
      (
        by_first first third (by_y 0 0 4 (omega arith)),
        each_before first 1 rest (before_start first 0 0 1 refl (omega arith)) (starts m (0 + 1) 1 (omega arith)),
      ),
    )
    (ascend_from (suc m) 0)

forward_from : (n a : ℕ) → AllByRecursion (λ p. is_forward p ≡ true) (pairs_of (border_from n a))
unfolding border_from
forward_from zero a = (by_y (4 * a) 0 4 (omega arith), tt)
forward_from (suc n) a = (by_x (4 * a) 0 (4 * (a + 1)) 0 (omega arith), (by_x (4 * a) 4 (4 * (a + 1)) 4 (omega arith), forward_from n (a + 1)))

-- ---- nets

-- a pair that goes forward is no edge that goes back
backward_none : (a b p q : Point) → is_before a b ≡ true → is_before p q ≡ true → seen a b q p ≡ 0
unfolding seen
backward_none a b p q ahead forward = ap one_if (false_from_ne_true (is_edge a b q p) (λ h.
    let both = and_parts (is_same_point q a) (is_same_point p b) h in
    let first : q ≡ a = point_exact q a both.0 in
    let last : p ≡ b = point_exact p b both.1 in
    before_one_way p q forward (subst (λ (r : Point). is_before q r ≡ true) (sym last) (subst (λ (r : Point). is_before r b ≡ true) (sym first) ahead))))

-- one more square on the left: its right side goes, and its bottom, top and left side come
more_net : (a b c d x y : Point) (ts : List Triangle) (u v : ℕ) → seen x y b a ≡ 0 → seen x y c b ≡ 0 → seen x y c d ≡ 0 → seen x y d a ≡ 0
    → net ts x y ≡ pos (0 + u) -ℤ pos (seen x y b c + v)
    → net (tri a b c ∷ tri a c d ∷ ts) x y ≡ pos (0 + (seen x y a b + (0 + u))) -ℤ pos (seen x y a d + (0 + (seen x y d c + v)))
unfolding net
more_net a b c d x y ts u v ba cb cd da rest =
    simp times_of
    (omega (arith, ints, rest, ba, cb, cd, da, turned x y a b, turned x y b c, turned x y c a, turned x y a c, turned x y c d, turned x y d a))

none_net : (s : ℕ) (x y : Point) → net [] x y ≡ pos (0 + (s + 0)) -ℤ pos (s + (0 + 0))
unfolding net
none_net s x y = simp times_none (omega (arith, ints))

border_net : (n a : ℕ) (x y : Point) → is_before x y ≡ true
    → net (flat_map own (map square (range_with_len a n))) x y ≡ pos (ups x y (border (low a) (high a) false ∷ border_from n a)) -ℤ pos (downs x y (border (low a) (high a) false ∷ border_from n a))
unfolding border_from ups downs triangles_from triangle_of point_at_place
border_net zero a x y ahead = none_net (seen x y (low a) (high a)) x y
border_net (suc n) a x y ahead =
    more_net (low a) (low (a + 1)) (high (a + 1)) (high a) x y (flat_map own (map square (range_with_len (a + 1) n))) (ups x y (border_from n (a + 1))) (downs x y (border_from n (a + 1)))
    (backward_none x y (low a) (low (a + 1)) ahead (by_x (4 * a) 0 (4 * (a + 1)) 0 (omega arith)))
    (backward_none x y (low (a + 1)) (high (a + 1)) ahead (by_y (4 * (a + 1)) 0 4 (omega arith)))
    (backward_none x y (high a) (high (a + 1)) ahead (by_x (4 * a) 4 (4 * (a + 1)) 4 (omega arith)))
    (backward_none x y (low a) (high a) ahead (by_y (4 * a) 0 4 (omega arith)))
    (border_net n (a + 1) x y ahead)

-- ---- frames

base_open : (version n c : ℕ) → c ≡ suc n → AreOpen (triangles_out_of (strip_file version c) 0) (pairs_of (strip_border c))
base_open version n c some =
    subst (λ (ts : List Triangle). AreOpen ts (pairs_of (strip_border c))) (sym (base_is version c))
    (open_from_borders (flat_map own (map square (range_with_len 0 c))) (strip_border c) (ascend_border n c some)
    (by_y 0 0 4 (omega arith), forward_from c 0) (λ p ahead. border_net c 0 p.a p.b ahead))

pub every_frame_open : (version c : ℕ) (in_set : ℕ → Bool) → is_version version ≡ true → 2 ≤ c → c ≤ 16384 → IsCut (fields_of (strip_patches c)) 0 in_set
    → AreOpen (frame_of_set (strip_file version c) in_set) (pairs_of (strip_border c))
every_frame_open version c in_set known some few cut =
    open_of_one_net (triangles_out_of (strip_file version c) 0) (frame_of_set (strip_file version c) in_set) (pairs_of (strip_border c))
    (λ a b. sym (boundary (strip_file version c) 0 in_set (strip_index version c known some few) (strip_is_accepted version c (omega arith)) cut a b))
    (base_open version (c - 1) c (omega arith))

pub frame_has_open : (version c : ℕ) (in_set : ℕ → Bool) → is_version version ≡ true → 2 ≤ c → c ≤ 16384 → IsCut (fields_of (strip_patches c)) 0 in_set
    → HasOpenPairs (frame_of_set (strip_file version c) in_set) (2 * c + 2)
frame_has_open version c in_set known some few cut = record {
  pairs = pairs_of (strip_border c);
  are_open = every_frame_open version c in_set known some few cut;
  number = length-map (strip_border c) (λ (b : Border). b.pair) ∙ (let n : length (border_from c 0) ≡ 2 * c + 1 = border_length c 0 in omega arith);
}
