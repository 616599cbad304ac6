-- Sums over a list when one place changes.
use Rattle.std.proofs.Common.{◌≡◌, ℕ, zero, suc, ◌+◌, ◌≤◌, List, [], ◌∷◌, ◌++◌, set, refl, sym, ap, arith}
use mathlib.Core.Option.{some, some-injective, some-ne-none}
use lib.ListN.{get_elem?}
use Rattle.token_table.specs.Known.{total}

module _ {A : Type 0} (f : A → ℕ) where
  -- one place changes
  pub total-set : (xs : List A) (i : ℕ) (v w : A) → get_elem? xs i ≡ some v → total f (set xs i w) + f v ≡ total f xs + f w
  unfolding total
  total-set [] i v w at = absurd (some-ne-none v (sym at))
  total-set (x ∷ xs) zero v w at = let same : f x ≡ f v = ap f (some-injective x v at) in omega arith
  total-set (x ∷ xs) (suc i) v w at = let rest = total-set xs i v w at in omega arith

  pub total-push : (xs : List A) (w : A) → total f (xs ++ w ∷ []) ≡ total f xs + f w
  unfolding total
  total-push [] w = omega arith
  total-push (x ∷ xs) w = let rest = total-push xs w in omega arith

  -- a place has at most the whole
  pub total-at : (xs : List A) (i : ℕ) (v : A) → get_elem? xs i ≡ some v → f v ≤ total f xs
  unfolding total
  total-at [] i v at = absurd (some-ne-none v (sym at))
  total-at (x ∷ xs) zero v at = let same : f x ≡ f v = ap f (some-injective x v at) in omega arith
  total-at (x ∷ xs) (suc i) v at = let rest = total-at xs i v at in omega arith

-- in each place the first is at most the second
abbrev pub IsBelow : {A : Type 0} → (A → ℕ) → (A → ℕ) → List A → Type 0
IsBelow {A} f g xs = (i : ℕ) (x : A) → get_elem? xs i ≡ some x → f x ≤ g x

module _ {A : Type 0} (f g : A → ℕ) where
  pub total-le : (xs : List A) → IsBelow f g xs → total f xs ≤ total g xs
  unfolding total
  total-le [] less = omega arith
  total-le (x ∷ xs) less =
      let rest = total-le xs (λ i v at. less (suc i) v at) in
      let here : f x ≤ g x = less 0 x refl in
      omega arith

  -- what all places but one have
  pub total-others : (xs : List A) (i : ℕ) (v : A) → IsBelow f g xs → get_elem? xs i ≡ some v → total f xs + g v ≤ total g xs + f v
  unfolding total
  total-others [] i v less at = absurd (some-ne-none v (sym at))
  total-others (x ∷ xs) zero v less at =
      let here : f x ≡ f v = ap f (some-injective x v at) in
      let there : g x ≡ g v = ap g (some-injective x v at) in
      let rest = total-le xs (λ i v at. less (suc i) v at) in
      omega arith
  total-others (x ∷ xs) (suc i) v less at =
      let rest = total-others xs i v (λ i v at. less (suc i) v at) at in
      let here : f x ≤ g x = less 0 x refl in
      omega arith
