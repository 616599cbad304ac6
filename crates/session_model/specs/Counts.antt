-- How many of the first numbers pass a test.
use Rattle.std.proofs.Common.{◌≡◌, ◌≢◌, ℕ, zero, suc, ◌+◌, ◌<◌, Bool, true, false, cond, refl, ap, ◌∙◌, arith, inl, inr}
use Rattle.std.specs.Prelude.{if◌then◌else◌}
use Rattle.std.proofs.lemmas.Bool.{cases_eq}

-- of the first n numbers those that pass
unfoldable pub count_below : ℕ → (ℕ → Bool) → ℕ
count_below zero test = 0
count_below (suc n) test = count_below n test + (if test n then 1 else 0)

pub same_count : (n : ℕ) (f g : ℕ → Bool) → ((q : ℕ) → g q ≡ f q) → count_below n g ≡ count_below n f
unfolding count_below
same_count zero f g same = refl
same_count (suc n) f g same = let rest = same_count n f g same in rw (same n) (omega (arith, rest))

one_less : (a b : ℕ) (t u : Bool) → t ≡ true → u ≡ false → a ≡ b → (a + cond u 1 0) + 1 ≡ b + cond t 1 0
one_less a b true false h k e = omega arith
one_less a b true true h k e = absurd (cc)
one_less a b false u h k e = absurd (cc)

same_last : (a b : ℕ) (t u : Bool) → u ≡ t → a + 1 ≡ b → (a + cond u 1 0) + 1 ≡ b + cond t 1 0
same_last a b true true e h = omega arith
same_last a b false false e h = omega arith
same_last a b true false e h = absurd (cc)
same_last a b false true e h = absurd (cc)

same_below : (n : ℕ) (f g : ℕ → Bool) → ((q : ℕ) → q < n → g q ≡ f q) → count_below n g ≡ count_below n f
unfolding count_below
same_below zero f g same = refl
same_below (suc n) f g same = let rest = same_below n f g (λ q less. same q (omega arith)) in let last = same n (omega arith) in rw last (omega (arith, rest))

-- where one number passes no more, the count falls by one
pub count_falls : (n p : ℕ) (f g : ℕ → Bool) → p < n → f p ≡ true → g p ≡ false → ((q : ℕ) → q ≢ p → g q ≡ f q) → count_below n g + 1 ≡ count_below n f
unfolding count_below
count_falls zero p f g within here now others = absurd (omega arith)
count_falls (suc n) p f g within here now others =
    elim (cases_eq n p) [
      | inl same ↦ one_less (count_below n g) (count_below n f) (f n) (g n) (ap f same ∙ here) (ap g same ∙ now) (same_below n f g (λ q less. others q (λ equal. omega arith)))
      | inr apart ↦ same_last (count_below n g) (count_below n f) (f n) (g n) (others n apart) (count_falls n p f g (omega arith) here now others)
    ]
