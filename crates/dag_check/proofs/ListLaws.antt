-- What stands in a list with one element set, or one more.
use Rattle.std.specs.Prelude.{◌≡◌, ◌≢◌, ◌⊎◌, ℕ, zero, suc, List, [], ◌∷◌, ◌++◌, length, slice_get, Some, refl}
use Rattle.std.proofs.Common.{inl, inr, set, ap, arith}

-- what stands in a list with one element set
pub set_read : {X : Type 0} → (xs : List X) (i v : ℕ) (x y : X) → slice_get (set xs i y) v ≡ Some x → ((v ≡ i) × (x ≡ y)) ⊎ ((v ≢ i) × (slice_get xs v ≡ Some x))
set_read [] i v x y e = absurd cc
set_read (z ∷ zs) zero zero x y e = inl (refl, cc)
set_read (z ∷ zs) zero (suc v) x y e = inr (omega arith, e)
set_read (z ∷ zs) (suc i) zero x y e = inr (omega arith, e)
set_read (z ∷ zs) (suc i) (suc v) x y e =
    elim (set_read zs i v x y e) [ inl h ↦ inl (ap (λ n. suc n) h.0, h.1) | inr h ↦ inr (λ same. h.0 (omega arith), h.1) ]

-- what is read once an element was pushed
pub push_read : {X : Type 0} (xs : List X) (x : X) (i : ℕ) (y : X) → slice_get (xs ++ x ∷ []) i ≡ Some y → (slice_get xs i ≡ Some y) ⊎ ((i ≡ length xs) × (y ≡ x))
push_read [] x zero y e = inr (refl, cc)
push_read [] x (suc i) y e = absurd cc
push_read (z ∷ zs) x zero y e = inl e
push_read (z ∷ zs) x (suc i) y e = elim (push_read zs x i y e) [ inl h ↦ inl h | inr h ↦ inr (ap (λ n. suc n) h.0, h.1) ]
