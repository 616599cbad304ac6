-- One node comes before another: a strict order, and total on distinct nodes.
use Rattle.std.proofs.Common.{◌≡◌, ℕ, ◌<◌, ◌⊎◌, true, false, ◌&&◌, ◌||◌, eqb, ltb, sym, ◌∙◌, arith, inl, inr}
use Rattle.std.specs.Bool.{Decides}
use Rattle.std.proofs.lemmas.Bool.{cases_order, false_from_ne_true}
use Rattle.std.proofs.lemmas.Bool.Decides.{Decides-eqb, Decides-ltb, Decides-and, Decides-or}
use Rattle.round_model.specs.Order.{Rules, score, level, comes_before}

-- by the greater first number, then the lesser second, then the lesser third
abbrev IsBefore : ℕ → ℕ → ℕ → ℕ → ℕ → ℕ → Type 0
IsBefore a b c x y z = (x < a) ⊎ ((a ≡ x) × ((b < y) ⊎ ((b ≡ y) × (c < z))))

is_transitive : (a b c i j k x y z : ℕ) → IsBefore a b c i j k → IsBefore i j k x y z → IsBefore a b c x y z
is_transitive a b c i j k x y z (inl p) (inl q) = inl (omega arith)
is_transitive a b c i j k x y z (inl p) (inr q) = inl (let e = q.0 in omega arith)
is_transitive a b c i j k x y z (inr p) (inl q) = inl (let e = p.0 in omega arith)
is_transitive a b c i j k x y z (inr p) (inr q) = inr (p.0 ∙ q.0, lesser p.1 q.1)
  where
    lesser : (b < j) ⊎ ((b ≡ j) × (c < k)) → (j < y) ⊎ ((j ≡ y) × (k < z)) → (b < y) ⊎ ((b ≡ y) × (c < z))
    lesser (inl p) (inl q) = inl (omega arith)
    lesser (inl p) (inr q) = inl (let e = q.0 in omega arith)
    lesser (inr p) (inl q) = inl (let e = p.0 in omega arith)
    lesser (inr p) (inr q) = inr (p.0 ∙ q.0, let l = p.1 in let r = q.1 in omega arith)

never_itself : (a b c : ℕ) → IsBefore a b c a b c → ⊥
never_itself a b c (inl p) = omega arith
never_itself a b c (inr p) = elim p.1 [ inl q ↦ omega arith | inr q ↦ let l = q.1 in omega arith ]

is_total : (a b c x y z : ℕ) → (c ≡ z → ⊥) → IsBefore a b c x y z ⊎ IsBefore x y z a b c
is_total a b c x y z apart =
    elim (cases_order a x) [
      | inr (inl less) ↦ inr (inl less)
      | inr (inr more) ↦ inl (inl more)
      | inl same ↦ elim (cases_order b y) [
        | inr (inl less) ↦ inl (inr (same, inl less))
        | inr (inr more) ↦ inr (inr (sym same, inl more))
        | inl same' ↦ elim (cases_order c z) [
          | inl equal ↦ absurd (apart equal)
          | inr (inl less) ↦ inl (inr (same, inr (same', less)))
          | inr (inr more) ↦ inr (inr (sym same, inr (sym same', more)))
        ]
      ]
    ]

pub decides_before : (rules : Rules) (u v : ℕ) → Decides (comes_before rules u v) ((score rules v < score rules u) ⊎ ((score rules u ≡ score rules v) × ((level rules u < level rules v) ⊎ ((level rules u ≡ level rules v) × (u < v)))))
decides_before rules u v =
    let by_number = Decides-and (eqb (level rules u) (level rules v)) (ltb u v) (Decides-eqb (level rules u) (level rules v)) (Decides-ltb u v) in
    let by_level = Decides-or (ltb (level rules u) (level rules v)) (eqb (level rules u) (level rules v) && ltb u v) (Decides-ltb (level rules u) (level rules v)) by_number in
    let by_tie = Decides-and (eqb (score rules u) (score rules v)) (ltb (level rules u) (level rules v) || (eqb (level rules u) (level rules v) && ltb u v)) (Decides-eqb (score rules u) (score rules v)) by_level in
    Decides-or (ltb (score rules v) (score rules u)) (eqb (score rules u) (score rules v) && (ltb (level rules u) (level rules v) || (eqb (level rules u) (level rules v) && ltb u v))) (Decides-ltb (score rules v) (score rules u)) by_tie

pub before_transitive : (rules : Rules) (u v w : ℕ) → comes_before rules u v ≡ true → comes_before rules v w ≡ true → comes_before rules u w ≡ true
before_transitive rules u v w first second =
    (decides_before rules u w).1
    (is_transitive (score rules u) (level rules u) u (score rules v) (level rules v) v (score rules w) (level rules w) w ((decides_before rules u v).0 first) ((decides_before rules v w).0 second))

pub before_never_itself : (rules : Rules) (v : ℕ) → comes_before rules v v ≡ false
before_never_itself rules v = false_from_ne_true (comes_before rules v v) (λ is. never_itself (score rules v) (level rules v) v ((decides_before rules v v).0 is))

pub before_one_way : (rules : Rules) (u v : ℕ) → comes_before rules u v ≡ true → comes_before rules v u ≡ false
before_one_way rules u v is =
    false_from_ne_true (comes_before rules v u) (λ back. let loop = before_transitive rules u v u is back in let never = before_never_itself rules u in absurd (cc))

pub before_total : (rules : Rules) (u v : ℕ) → (u ≡ v → ⊥) → (comes_before rules u v ≡ true) ⊎ (comes_before rules v u ≡ true)
before_total rules u v apart =
    elim (is_total (score rules u) (level rules u) u (score rules v) (level rules v) v apart) [
      | inl is ↦ inl ((decides_before rules u v).1 is)
      | inr is ↦ inr ((decides_before rules v u).1 is)
    ]
