-- What holds of each item of a list, by recursion over it.
use Rattle.std.proofs.Common.{◌≡◌, ℕ, zero, suc, Bool, true, false, List, [], ◌∷◌, Option, Some, refl, subst}
use Rattle.std.specs.Prelude.{IsTrue, slice_get}
use Rattle.std.specs.List.{AllByRecursion, list_all, list_any}
use Rattle.std.proofs.lemmas.Bool.{and_parts, or_parts}

pub each_from_places : {X : Type 0} (P : X → Type 0) (xs : List X) → ((k : ℕ) (x : X) → slice_get xs k ≡ Some x → P x) → AllByRecursion P xs
each_from_places P [] h = tt
each_from_places P (x ∷ xs) h = (h 0 x refl, each_from_places P xs (λ k y e. h (suc k) y e))

pub each_passes : {X : Type 0} (test : X → Bool) (xs : List X) → IsTrue (list_all test xs) → AllByRecursion (λ x. test x ≡ true) xs
each_passes test [] h = tt
each_passes test (x ∷ xs) h =
    let parts = and_parts (test x) (list_all test xs) h in
    (parts.0, each_passes test xs parts.1)

pub each_fails : {X : Type 0} (test : X → Bool) (xs : List X) → list_any test xs ≡ false → AllByRecursion (λ x. test x ≡ false) xs
each_fails test [] h = tt
each_fails test (x ∷ xs) h =
    let parts = or_parts (test x) (list_any test xs) h in
    (parts.0, each_fails test xs parts.1)

pub each_of_all : {X : Type 0} (P : X → Type 0) (xs : List X) → ((x : X) → P x) → AllByRecursion P xs
each_of_all P [] h = tt
each_of_all P (x ∷ xs) h = (h x, each_of_all P xs h)

pub each_then : {X : Type 0} (P Q : X → Type 0) (xs : List X) → ((x : X) → P x → Q x) → AllByRecursion P xs → AllByRecursion Q xs
each_then P Q [] step h = tt
each_then P Q (x ∷ xs) step h = (step x h.0, each_then P Q xs step h.1)

pub each_both : {X : Type 0} (P Q R : X → Type 0) (xs : List X) → ((x : X) → P x → Q x → R x) → AllByRecursion P xs → AllByRecursion Q xs → AllByRecursion R xs
each_both P Q R [] step h k = tt
each_both P Q R (x ∷ xs) step h k = (step x h.0 k.0, each_both P Q R xs step h.1 k.1)

abbrev some : {X : Type 0} → X → Option X
some x = Some x

some_is : {X : Type 0} (x y : X) → some x ≡ some y → x ≡ y
some_is x y e = cc

pub each_at : {X : Type 0} (P : X → Type 0) (xs : List X) (k : ℕ) (x : X) → slice_get xs k ≡ Some x → AllByRecursion P xs → P x
each_at P [] k x e h = absurd cc
each_at P (y ∷ ys) zero x e h = subst P (some_is y x e) h.0
each_at P (y ∷ ys) (suc k) x e h = each_at P ys k x e h.1
