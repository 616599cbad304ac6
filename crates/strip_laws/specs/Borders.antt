-- The open edges of the base of the strip are its border, and those of every frame too.
use Rattle.std.proofs.Common.{◌≡◌, ℕ, zero, suc, ◌+◌, Bool, true, false, ◌&&◌, cond, List, [], ◌∷◌, map, ℤ, pos, refl, sym, ap, subst, ◌∙◌, arith, inl, inr}
use Rattle.std.specs.Prelude.{◌⊎◌, ◌-ℤ◌}
use Rattle.std.specs.Ordering.{int_eq}
use Rattle.std.specs.List.{AllByRecursion, Contains}
use Rattle.std.proofs.lemmas.Int.{ints}
use Rattle.std.proofs.lemmas.Bool.{and_parts, and_from, cases_Bool, false_from_ne_true}
use Rattle.std.proofs.lemmas.Bool.Decides.{Decides-int_eq}
use Rattle.grid_vertex.specs.declared.points.Point.{Point}
use Rattle.grid_vertex.specs.declared.triangles.Triangle.{Triangle}
use Rattle.grid_vertex.specs.Points.{is_same_point}
use Rattle.mesh_model.specs.Nets.{one_if, is_edge, net, Pair, is_forward, is_pair_before, Ascend, AreOpen}
use Rattle.mesh_model.specs.Orders.{point_exact, pair_one_way}
use Rattle.strip_laws.specs.EdgeNets.{seen}

-- ---- lists of borders

-- an open edge, and whether its net is 1 or -1
pub record Border : Type 0 where
  pub pair : Pair
  pub up : Bool

abbrev pub border : Point → Point → Bool → Border
border a b up = record { pair = record { a = a; b = b }; up = up }

abbrev pub pairs_of : List Border → List Pair
pairs_of bs = map (λ (b : Border). b.pair) bs

-- how often the pair (a, b) is a border of net 1
unfoldable pub ups : Point → Point → List Border → ℕ
ups a b [] = 0
ups a b (x ∷ xs) = cond x.up (seen a b x.pair.a x.pair.b) 0 + ups a b xs

-- and of net -1
unfoldable pub downs : Point → Point → List Border → ℕ
downs a b [] = 0
downs a b (x ∷ xs) = cond x.up 0 (seen a b x.pair.a x.pair.b) + downs a b xs

-- ---- one pair in an ascending list

pub int_itself : (z : ℤ) → int_eq z z ≡ true
int_itself z = (Decides-int_eq z z).1 refl

point_itself : (p : Point) → is_same_point p p ≡ true
point_itself p = and_from (int_eq p.x p.x && int_eq p.y p.y) (int_eq p.z p.z) (and_from (int_eq p.x p.x) (int_eq p.y p.y) (int_itself p.x) (int_itself p.y)) (int_itself p.z)

seen_itself : (a b : Point) → one_if (is_edge a b a b) ≡ 1
seen_itself a b = ap one_if (and_from (is_same_point a a) (is_same_point b b) (point_itself a) (point_itself b))

same_seen : (p q : Pair) → p ≡ q → seen p.a p.b q.a q.b ≡ 1
unfolding seen
same_seen p q e = subst (λ (r : Pair). one_if (is_edge p.a p.b r.a r.b) ≡ 1) e (seen_itself p.a p.b)

other_seen : (p q : Pair) → (p ≡ q → ⊥) → seen p.a p.b q.a q.b ≡ 0
unfolding seen
other_seen p q apart = ap one_if (false_from_ne_true (is_edge p.a p.b q.a q.b) (λ h.
    let both = and_parts (is_same_point q.a p.a) (is_same_point q.b p.b) h in
    let a = point_exact q.a p.a both.0 in
    let b = point_exact q.b p.b both.1 in
    apart (λ i. record { a = sym a i; b = sym b i })))

both_zero : (t : Bool) (x y n : ℕ) → x ≡ 0 → y ≡ 0 → n ≡ 0 → cond t x y + n ≡ 0
both_zero true x y n h k e = omega arith
both_zero false x y n h k e = omega arith

one_differs : (t : Bool) (x u d : ℕ) → x ≡ 1 → u ≡ 0 → d ≡ 0 → cond t x 0 + u ≡ cond t 0 x + d → ⊥
one_differs true x u d h k e same = absurd (omega arith)
one_differs false x u d h k e same = absurd (omega arith)

same_left : (t : Bool) (x u d : ℕ) → x ≡ 0 → cond t x 0 + u ≡ cond t 0 x + d → u ≡ d
same_left true x u d h same = omega arith
same_left false x u d h same = omega arith

-- what holds of all items holds of one that the list has
pub contained : (P : Pair → Type 0) (ps : List Pair) (q : Pair) → AllByRecursion P ps → Contains ps q → P q
contained P [] q h at = absurd (omega (arith, at.1))
contained P (p ∷ ps) q h (zero, within, is) = subst P is h.0
contained P (p ∷ ps) q h (suc k, within, is) = contained P ps q h.1 (k, omega (arith, within), is)

never_past : (P : Pair → Type 0) (ps : List Pair) → ((q : Pair) → Contains ps q → P q) → AllByRecursion P ps
never_past P [] h = tt
never_past P (p ∷ ps) h = (h p (0, omega arith, refl), never_past P ps (λ q at. h q (suc at.0, omega (arith, at.1), at.2)))

-- a pair that is none of them is in neither count
no_ups : (p : Pair) (bs : List Border) → AllByRecursion (λ q. p ≡ q → ⊥) (pairs_of bs) → (ups p.a p.b bs ≡ 0) × (downs p.a p.b bs ≡ 0)
unfolding ups downs
no_ups p [] h = (refl, refl)
no_ups p (b ∷ bs) h =
    let rest = no_ups p bs h.1 in
    let none = other_seen p b.pair h.0 in
    (both_zero b.up (seen p.a p.b b.pair.a b.pair.b) 0 (ups p.a p.b bs) none refl rest.0, both_zero b.up 0 (seen p.a p.b b.pair.a b.pair.b) (downs p.a p.b bs) refl none rest.1)

-- a border's counts differ
counts_differ : (p : Pair) (bs : List Border) → Ascend (pairs_of bs) → Contains (pairs_of bs) p → ups p.a p.b bs ≡ downs p.a p.b bs → ⊥
unfolding ups downs
counts_differ p [] up at same = absurd (omega (arith, at.1))
counts_differ p (b ∷ bs) up (zero, within, is) same =
    let later = never_past (λ q. p ≡ q → ⊥) (pairs_of bs) (λ q at e.
    let before = subst (λ (r : Pair). is_pair_before b.pair r ≡ true) (sym e ∙ sym is) (up.0 q at) in
    pair_one_way b.pair b.pair before before) in
    let rest = no_ups p bs later in
    let one = same_seen p b.pair (sym is) in
    one_differs b.up (seen p.a p.b b.pair.a b.pair.b) (ups p.a p.b bs) (downs p.a p.b bs) one rest.0 rest.1 same
counts_differ p (b ∷ bs) up (suc k, within, is) same =
    let at : Contains (pairs_of bs) p = (k, omega (arith, within), is) in
    let before = up.0 p at in
    let apart : p ≡ b.pair → ⊥ = λ e. let itself = subst (λ (r : Pair). is_pair_before b.pair r ≡ true) e before in pair_one_way b.pair b.pair itself itself in
    counts_differ p bs up.1 at (same_left b.up (seen p.a p.b b.pair.a b.pair.b) (ups p.a p.b bs) (downs p.a p.b bs) (other_seen p b.pair apart) same)

-- what is no border has equal counts
counts_agree : (p : Pair) (bs : List Border) → (Contains (pairs_of bs) p → ⊥) → (ups p.a p.b bs ≡ 0) × (downs p.a p.b bs ≡ 0)
counts_agree p bs none = no_ups p bs (never_past (λ q. p ≡ q → ⊥) (pairs_of bs) (λ q at e. none (subst (λ (r : Pair). Contains (pairs_of bs) r) (sym e) at)))

pair_cases : (p q : Pair) → (p ≡ q) ⊎ (p ≡ q → ⊥)
pair_cases p q =
    elim (cases_Bool (is_same_point p.a q.a && is_same_point p.b q.b)) [
      | inl h ↦
          let both = and_parts (is_same_point p.a q.a) (is_same_point p.b q.b) h in
          let a = point_exact p.a q.a both.0 in
          let b = point_exact p.b q.b both.1 in
          inl (λ i. record { a = a i; b = b i })
      | inr h ↦ inr (λ e.
          let itself = subst (λ (r : Pair). (is_same_point r.a q.a && is_same_point r.b q.b) ≡ false) e h in
          absurd (let there = and_from (is_same_point q.a q.a) (is_same_point q.b q.b) (point_itself q.a) (point_itself q.b) in cc))
    ]

past_head : (p q : Pair) (ps : List Pair) → (p ≡ q → ⊥) → Contains (q ∷ ps) p → Contains ps p
past_head p q ps apart (zero, within, is) = absurd (apart (sym is))
past_head p q ps apart (suc k, within, is) = (k, omega (arith, within), is)

zero_apart : (u d : ℕ) → pos u -ℤ pos d ≡ pos 0 → u ≡ d
zero_apart u d e = omega (arith, ints)

contains_cases : (p : Pair) (ps : List Pair) → Contains ps p ⊎ (Contains ps p → ⊥)
contains_cases p [] = inr (λ at. absurd (omega (arith, at.1)))
contains_cases p (q ∷ ps) =
    elim (pair_cases p q) [
      | inl same ↦ inl (0, omega arith, sym same)
      | inr apart ↦ elim (contains_cases p ps) [
        | inl later ↦ inl (suc later.0, omega (arith, later.1), later.2)
        | inr none ↦ inr (λ at. none (past_head p q ps apart at))
      ]
    ]

-- an ascending list of forward borders has the open edges of triangles whose net its counts give
pub open_from_borders : (ts : List Triangle) (bs : List Border) → Ascend (pairs_of bs) → AllByRecursion (λ p. is_forward p ≡ true) (pairs_of bs)
    → ((p : Pair) → is_forward p ≡ true → net ts p.a p.b ≡ pos (ups p.a p.b bs) -ℤ pos (downs p.a p.b bs)) → AreOpen ts (pairs_of bs)
open_from_borders ts bs up forward nets = record {
  ascending = up;
  forward = λ p at. contained (λ q. is_forward q ≡ true) (pairs_of bs) p forward at;
  open_edges = λ p ahead. (
    λ at none. counts_differ p bs up at (zero_apart (ups p.a p.b bs) (downs p.a p.b bs) (sym (nets p ahead) ∙ none)),
    λ some. elim (contains_cases p (pairs_of bs)) [
      | inl at ↦ at
      | inr none ↦ let counts = counts_agree p bs none in absurd (some (nets p ahead ∙ (λ i. pos (counts.0 i) -ℤ pos (counts.1 i))))
    ],
  );
}
