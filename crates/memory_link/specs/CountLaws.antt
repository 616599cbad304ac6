-- Laws of counts that are kept since the last multiple.
use Rattle.std.proofs.Common.{◌≡◌, ℕ, ◌+◌, ◌<◌, ◌≤◌, inl, inr, Bool, true, false, zero, suc, refl, sym, ap, ◌∙◌}
use Rattle.std.proofs.Common.{subst, arith}
use Rattle.std.specs.Prelude.{◌%◌, ◌==◌, ◌&&◌, not, if◌then◌else◌}
use Rattle.std.proofs.lemmas.Bool.{and_parts, eqb-true, lt-leb, le-leb, cases_lt, ne_eqb}
use Rattle.std.proofs.Math.Nat.{suc-mod, mod_self, mod-lt, mod-eq_of_lt}
use Rattle.memory_link.specs.Counts.{one_more, is_multiple, counted}

-- below the next multiple the count is one more
pub one_more-below : (every count : ℕ) → count + 1 < every → one_more every count ≡ count + 1
one_more-below every count below = ap (λ (b : Bool). if b then 0 else (count + 1)) (lt-leb every (count + 1) below)

-- at the next multiple it is 0
pub one_more-at : (every count : ℕ) → every ≤ count + 1 → one_more every count ≡ 0
one_more-at every count at = ap (λ (b : Bool). if b then 0 else (count + 1)) (le-leb every (count + 1) at)

-- a count that stands at a multiple is 0
pub at_multiple : (every count : ℕ) → is_multiple every count ≡ true → count ≡ 0
at_multiple every count is = eqb-true count 0 (and_parts (not (every == 0)) (count == 0) is).1

-- there is no multiple of 0
pub none_of_zero : (every count : ℕ) → every ≡ 0 → is_multiple every count ≡ true → ⊥
none_of_zero every count zero_is is =
    let none : is_multiple 0 count ≡ true = subst (λ e. is_multiple e count ≡ true) zero_is is in
    cc none

-- with at least three to a multiple, the first past one is none
pub first_is_none : (every count : ℕ) → 3 ≤ every → count ≡ 0 → is_multiple every (one_more every count) ≡ true → ⊥
first_is_none every count many at is =
    let next : one_more every count ≡ count + 1 = one_more-below every count (omega arith) in
    let none : one_more every count ≡ 0 = at_multiple every (one_more every count) is in
    omega (arith, next, none, at)

-- nor is the second
pub second_is_none : (every count : ℕ) → 3 ≤ every → count ≡ 0
    → is_multiple every (one_more every (one_more every count)) ≡ true → ⊥
second_is_none every count many at is =
    let next : one_more every count ≡ count + 1 = one_more-below every count (omega arith) in
    let below : one_more every count + 1 < every = omega (arith, next, at) in
    let second : one_more every (one_more every count) ≡ one_more every count + 1 =
    one_more-below every (one_more every count) below in
    let none : one_more every (one_more every count) ≡ 0 =
    at_multiple every (one_more every (one_more every count)) is in
    omega (arith, second, none)

-- ---- the rest of the whole count

rest_below : (every n rest : ℕ) → rest + 1 < every → n % every ≡ rest → suc n % every ≡ rest + 1
rest_below every n rest below is =
    let small : suc (n % every) < every = omega (arith, is) in
    suc-mod n every ∙ mod-eq_of_lt small ∙ omega (arith, is)

rest_at : (every n rest : ℕ) → rest + 1 ≡ every → n % every ≡ rest → suc n % every ≡ 0
rest_at every n rest at is =
    let full : suc (n % every) ≡ every = omega (arith, is) in
    suc-mod n every ∙ ap (λ (m : ℕ). m % every) full ∙ mod_self every

counted_more : (every n rest : ℕ) → rest < every → n % every ≡ rest → one_more every rest ≡ suc n % every
counted_more every n rest fits is =
    elim (cases_lt (rest + 1) every) [
      | inl below ↦ one_more-below every rest below ∙ sym (rest_below every n rest below is)
      | inr at ↦ one_more-at every rest at ∙ sym (rest_at every n rest (omega arith) is)
    ]

-- the count is the rest of the whole count by the number to a multiple
pub counted-rest : (every n : ℕ) → 0 < every → counted every n ≡ n % every
counted-rest every zero some = sym (mod-eq_of_lt some)
counted-rest every (suc n) some =
    let is = counted-rest every n some in
    counted_more every n (counted every n) (omega (arith, is, mod-lt n some)) (sym is)

-- it stands at a multiple where the whole count is one
pub counted-multiple : (every n : ℕ) → 0 < every → is_multiple every (counted every n) ≡ (n % every == 0)
counted-multiple every n some =
    let not_zero : (every == 0) ≡ false = ne_eqb every 0 (λ is. omega (arith, is, some)) in
    ap (λ (b : Bool). not b && (counted every n == 0)) not_zero
    ∙ ap (λ (k : ℕ). k == 0) (counted-rest every n some)

-- of 0 there is none
pub counted-none : (n : ℕ) → is_multiple 0 (counted 0 n) ≡ false
counted-none n = refl
