-- Equations between sums and products of whole numbers, by multiplying out: an expression is brought to
-- terms, where products of the same unknowns are one term.
use Rattle.std.proofs.Common.{◌≡◌, ℕ, zero, suc, Bool, true, false, cond, ◌&&◌, leb, eqb, ℤ, pos, negsuc, ◌+ℤ◌, ◌-ℤ◌, ◌*ℤ◌, neg_ℤ, List, [], ◌∷◌, refl, sym, ap, ◌∙◌, arith}
use Rattle.std.proofs.lemmas.Int.{ints}
use Rattle.std.proofs.lemmas.Bool.{cond_both, and_parts, eqb-true}
use Rattle.std.proofs.Math.IntN.{one, *ℤ_comm, zero-*ℤ, *ℤ-one}
use Rattle.ring_laws.specs.Products.{distrib, distrib_right, neg_times, assoc}

infixl 20 ◌:+◌
infixl 20 ◌:-◌
infixl 30 ◌:*◌
-- an expression in numbered unknowns
pub data Exp : Type 0 where
  X : ℕ → Exp
  ◌:+◌ : Exp → Exp → Exp
  ◌:-◌ : Exp → Exp → Exp
  ◌:*◌ : Exp → Exp → Exp

-- the unknown of a number; past the list's end it has some value
abbrev pub unknown : List ℤ → ℕ → ℤ
unknown [] n = pos n
unknown (z ∷ zs) zero = z
unknown (z ∷ zs) (suc n) = unknown zs n

abbrev pub value : List ℤ → Exp → ℤ
value zs (X n) = unknown zs n
value zs (e :+ f) = value zs e +ℤ value zs f
value zs (e :- f) = value zs e -ℤ value zs f
value zs (e :* f) = value zs e *ℤ value zs f

-- so many times a product of unknowns, which ascend
pub record Term : Type 0 where
  pub times : ℤ
  pub unknowns : List ℕ

abbrev pub product_of : List ℤ → List ℕ → ℤ
product_of zs [] = pos 1
product_of zs (n ∷ ns) = unknown zs n *ℤ product_of zs ns

abbrev pub term_value : List ℤ → Term → ℤ
term_value zs t = t.times *ℤ product_of zs t.unknowns

abbrev pub terms_value : List ℤ → List Term → ℤ
terms_value zs [] = pos 0
terms_value zs (t ∷ ts) = term_value zs t +ℤ terms_value zs ts

-- the unknown in its place among ascending ones
abbrev pub with_unknown : ℕ → List ℕ → List ℕ
with_unknown n [] = n ∷ []
with_unknown n (m ∷ ms) = cond (leb n m) (n ∷ m ∷ ms) (m ∷ with_unknown n ms)

abbrev pub joined : List ℕ → List ℕ → List ℕ
joined [] ns = ns
joined (m ∷ ms) ns = with_unknown m (joined ms ns)

abbrev pub are_same : List ℕ → List ℕ → Bool
are_same [] [] = true
are_same [] (n ∷ ns) = false
are_same (m ∷ ms) [] = false
are_same (m ∷ ms) (n ∷ ns) = eqb m n && are_same ms ns

-- the term is put to the one of the same unknowns
abbrev pub with_term : Term → List Term → List Term
with_term t [] = t ∷ []
with_term t (u ∷ us) =
    cond (are_same t.unknowns u.unknowns) (record { times = t.times +ℤ u.times; unknowns = u.unknowns } ∷ us) (u ∷ with_term t us)

abbrev pub with_terms : List Term → List Term → List Term
with_terms [] us = us
with_terms (t ∷ ts) us = with_term t (with_terms ts us)

abbrev pub negated : List Term → List Term
negated [] = []
negated (t ∷ ts) = record { times = neg_ℤ t.times; unknowns = t.unknowns } ∷ negated ts

-- a term by terms
abbrev pub term_by : Term → List Term → List Term
term_by t [] = []
term_by t (u ∷ us) = record { times = t.times *ℤ u.times; unknowns = joined t.unknowns u.unknowns } ∷ term_by t us

abbrev pub terms_by : List Term → List Term → List Term
terms_by [] us = []
terms_by (t ∷ ts) us = with_terms (term_by t us) (terms_by ts us)

-- the expression multiplied out
abbrev pub terms : Exp → List Term
terms (X n) = record { times = pos 1; unknowns = n ∷ [] } ∷ []
terms (e :+ f) = with_terms (terms e) (terms f)
terms (e :- f) = with_terms (negated (terms f)) (terms e)
terms (e :* f) = terms_by (terms e) (terms f)

abbrev pub is_nought : ℤ → Bool
is_nought (pos n) = eqb n 0
is_nought (negsuc n) = false

-- nothing is left of the terms
abbrev pub are_zero : List Term → Bool
are_zero [] = true
are_zero (t ∷ ts) = is_nought t.times && are_zero ts

-- ---- multiplying out keeps the value

swap_first : (a b c : ℤ) → a *ℤ (b *ℤ c) ≡ b *ℤ (a *ℤ c)
swap_first a b c = sym (assoc a b c) ∙ ap (λ (z : ℤ). z *ℤ c) (*ℤ_comm a b) ∙ assoc b a c

product_with : (zs : List ℤ) (n : ℕ) (ms : List ℕ) → product_of zs (with_unknown n ms) ≡ unknown zs n *ℤ product_of zs ms
product_with zs n [] = refl
product_with zs n (m ∷ ms) =
    cond_both (leb n m) (n ∷ m ∷ ms) (m ∷ with_unknown n ms) (λ (ns : List ℕ). product_of zs ns ≡ unknown zs n *ℤ (unknown zs m *ℤ product_of zs ms)) (λ e. refl)
    (λ e. ap (λ (z : ℤ). unknown zs m *ℤ z) (product_with zs n ms) ∙ swap_first (unknown zs m) (unknown zs n) (product_of zs ms))

by_one : (z : ℤ) → z *ℤ pos 1 ≡ z
unfolding one
by_one z = *ℤ-one z

one_by : (z : ℤ) → pos 1 *ℤ z ≡ z
one_by z = *ℤ_comm (pos 1) z ∙ by_one z

product_joined : (zs : List ℤ) (ms ns : List ℕ) → product_of zs (joined ms ns) ≡ product_of zs ms *ℤ product_of zs ns
product_joined zs [] ns = sym (one_by (product_of zs ns))
product_joined zs (m ∷ ms) ns =
    product_with zs m (joined ms ns) ∙ ap (λ (z : ℤ). unknown zs m *ℤ z) (product_joined zs ms ns) ∙ sym (assoc (unknown zs m) (product_of zs ms) (product_of zs ns))

same_lists : (ms ns : List ℕ) → are_same ms ns ≡ true → ms ≡ ns
same_lists [] [] h = refl
same_lists [] (n ∷ ns) h = absurd (cc)
same_lists (m ∷ ms) [] h = absurd (cc)
same_lists (m ∷ ms) (n ∷ ns) h =
    let parts = and_parts (eqb m n) (are_same ms ns) h in
    let first = eqb-true m n parts.0 in
    let rest = same_lists ms ns parts.1 in
    cc

value_with_term : (zs : List ℤ) (t : Term) (us : List Term) → terms_value zs (with_term t us) ≡ term_value zs t +ℤ terms_value zs us
value_with_term zs t [] = refl
value_with_term zs t (u ∷ us) =
    cond_both (are_same t.unknowns u.unknowns) (record { times = t.times +ℤ u.times; unknowns = u.unknowns } ∷ us) (u ∷ with_term t us)
    (λ (ts : List Term). terms_value zs ts ≡ term_value zs t +ℤ (term_value zs u +ℤ terms_value zs us))
    (λ e.
    let same = ap (λ (ns : List ℕ). t.times *ℤ product_of zs ns) (same_lists t.unknowns u.unknowns e) in
    plain (t.times *ℤ product_of zs t.unknowns) (t.times *ℤ product_of zs u.unknowns) ((t.times +ℤ u.times) *ℤ product_of zs u.unknowns) (term_value zs u) (terms_value zs us) same (distrib_right t.times u.times (product_of zs u.unknowns)))
    (λ e. apart (term_value zs t) (term_value zs u) (terms_value zs us) (terms_value zs (with_term t us)) (value_with_term zs t us))
  where
    plain : (a b s u r : ℤ) → a ≡ b → s ≡ b +ℤ u → s +ℤ r ≡ a +ℤ (u +ℤ r)
    plain a b s u r same sum = omega (arith, ints)

    apart : (t u r w : ℤ) → w ≡ t +ℤ r → u +ℤ w ≡ t +ℤ (u +ℤ r)
    apart t u r w e = omega (arith, ints)

value_with_terms : (zs : List ℤ) (ts us : List Term) → terms_value zs (with_terms ts us) ≡ terms_value zs ts +ℤ terms_value zs us
value_with_terms zs [] us = omega (arith, ints)
value_with_terms zs (t ∷ ts) us =
    let first = value_with_term zs t (with_terms ts us) in
    let rest = value_with_terms zs ts us in
    plain (terms_value zs (with_term t (with_terms ts us))) (terms_value zs (with_terms ts us)) (term_value zs t) (terms_value zs ts) (terms_value zs us) first rest
  where
    plain : (all w t ts us : ℤ) → all ≡ t +ℤ w → w ≡ ts +ℤ us → all ≡ (t +ℤ ts) +ℤ us
    plain all w t ts us first rest = omega (arith, ints)

value_negated : (zs : List ℤ) (ts : List Term) → terms_value zs (negated ts) ≡ neg_ℤ (terms_value zs ts)
value_negated zs [] = refl
value_negated zs (t ∷ ts) =
    plain (neg_ℤ t.times *ℤ product_of zs t.unknowns) (term_value zs t) (terms_value zs (negated ts)) (terms_value zs ts) (neg_times t.times (product_of zs t.unknowns)) (value_negated zs ts)
  where
    plain : (n t m ts : ℤ) → n ≡ neg_ℤ t → m ≡ neg_ℤ ts → n +ℤ m ≡ neg_ℤ (t +ℤ ts)
    plain n t m ts first rest = omega (arith, ints)

-- (a b) (c d) = (a c) (b d)
pairs : (a b c d : ℤ) → (a *ℤ b) *ℤ (c *ℤ d) ≡ (a *ℤ c) *ℤ (b *ℤ d)
pairs a b c d = assoc a b (c *ℤ d) ∙ ap (λ (z : ℤ). a *ℤ z) (swap_first b c d) ∙ sym (assoc a c (b *ℤ d))

value_term_by : (zs : List ℤ) (t : Term) (us : List Term) → terms_value zs (term_by t us) ≡ term_value zs t *ℤ terms_value zs us
value_term_by zs t [] = sym (*ℤ_comm (term_value zs t) (pos 0) ∙ zero-*ℤ (term_value zs t))
value_term_by zs t (u ∷ us) =
    let product = ap (λ (z : ℤ). (t.times *ℤ u.times) *ℤ z) (product_joined zs t.unknowns u.unknowns) ∙ pairs t.times u.times (product_of zs t.unknowns) (product_of zs u.unknowns) in
    plain ((t.times *ℤ u.times) *ℤ product_of zs (joined t.unknowns u.unknowns)) (term_value zs t *ℤ term_value zs u) (terms_value zs (term_by t us)) (term_value zs t *ℤ terms_value zs us) (term_value zs t *ℤ (term_value zs u +ℤ terms_value zs us))
    product (value_term_by zs t us) (distrib (term_value zs t) (term_value zs u) (terms_value zs us))
  where
    plain : (p q r s all : ℤ) → p ≡ q → r ≡ s → all ≡ q +ℤ s → p +ℤ r ≡ all
    plain p q r s all first rest sum = omega (arith, ints)

value_terms_by : (zs : List ℤ) (ts us : List Term) → terms_value zs (terms_by ts us) ≡ terms_value zs ts *ℤ terms_value zs us
value_terms_by zs [] us = sym (zero-*ℤ (terms_value zs us))
value_terms_by zs (t ∷ ts) us =
    value_with_terms zs (term_by t us) (terms_by ts us)
    ∙ ap (λ (z : ℤ). z +ℤ terms_value zs (terms_by ts us)) (value_term_by zs t us)
    ∙ ap (λ (z : ℤ). term_value zs t *ℤ terms_value zs us +ℤ z) (value_terms_by zs ts us)
    ∙ sym (distrib_right (term_value zs t) (terms_value zs ts) (terms_value zs us))

term_of_unknown : (z : ℤ) → z ≡ pos 1 *ℤ (z *ℤ pos 1) +ℤ pos 0
term_of_unknown z = omega (arith, ints, one_by (z *ℤ pos 1), by_one z)

value_terms : (zs : List ℤ) (e : Exp) → value zs e ≡ terms_value zs (terms e)
value_terms zs (X n) = term_of_unknown (unknown zs n)
value_terms zs (e :+ f) =
    ap (λ (z : ℤ). z +ℤ value zs f) (value_terms zs e) ∙ ap (λ (z : ℤ). terms_value zs (terms e) +ℤ z) (value_terms zs f) ∙ sym (value_with_terms zs (terms e) (terms f))
value_terms zs (e :- f) =
    plain (value zs e) (value zs f) (terms_value zs (terms e)) (terms_value zs (terms f)) (terms_value zs (negated (terms f))) (terms_value zs (with_terms (negated (terms f)) (terms e)))
    (value_terms zs e) (value_terms zs f) (value_negated zs (terms f)) (value_with_terms zs (negated (terms f)) (terms e))
  where
    plain : (e f s t n all : ℤ) → e ≡ s → f ≡ t → n ≡ neg_ℤ t → all ≡ n +ℤ s → e -ℤ f ≡ all
    plain e f s t n all first second less sum = omega (arith, ints)
value_terms zs (e :* f) =
    ap (λ (z : ℤ). z *ℤ value zs f) (value_terms zs e) ∙ ap (λ (z : ℤ). terms_value zs (terms e) *ℤ z) (value_terms zs f) ∙ sym (value_terms_by zs (terms e) (terms f))

nought_is : (z : ℤ) → is_nought z ≡ true → z ≡ pos 0
nought_is (pos n) h = ap pos (eqb-true n 0 h)
nought_is (negsuc n) h = absurd (cc)

zero_value : (zs : List ℤ) (ts : List Term) → are_zero ts ≡ true → terms_value zs ts ≡ pos 0
zero_value zs [] h = refl
zero_value zs (t ∷ ts) h =
    let parts = and_parts (is_nought t.times) (are_zero ts) h in
    let first = ap (λ (z : ℤ). z *ℤ product_of zs t.unknowns) (nought_is t.times parts.0) ∙ zero-*ℤ (product_of zs t.unknowns) in
    plain (term_value zs t) (terms_value zs ts) first (zero_value zs ts parts.1)
  where
    plain : (a b : ℤ) → a ≡ pos 0 → b ≡ pos 0 → a +ℤ b ≡ pos 0
    plain a b first rest = omega (arith, ints)

-- two expressions have one value where nothing is left of their difference
pub ring : (zs : List ℤ) (e f : Exp) → are_zero (terms (e :- f)) ≡ true → value zs e ≡ value zs f
ring zs e f h = plain (value zs e) (value zs f) (value_terms zs (e :- f) ∙ zero_value zs (terms (e :- f)) h)
  where
    plain : (a b : ℤ) → a -ℤ b ≡ pos 0 → a ≡ b
    plain a b e = omega (arith, ints)
