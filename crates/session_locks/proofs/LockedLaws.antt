-- The least locked patch, looked for from a place below which there is none.
use Rattle.std.proofs.Common.{◌≡◌, ℕ, ◌+◌, ◌-◌, ◌<◌, ◌≤◌, Bool, false, true, not, List, length, drop, take, get_or, set, Some, None, sym, ap, subst, ◌∙◌, arith, inl, inr}
use Rattle.std.specs.List.{position, position_or_len}
use Rattle.std.proofs.lemmas.List.{get_or-drop, length-drop, length-set, get_or-set_other}
use Rattle.std.proofs.lemmas.Bool.{cases_lt}
use Rattle.std.proofs.lemmas.Grind.{common_steps}
use Rattle.std.proofs.Math.Seq.{take-length}
use Rattle.std.proofs.lemmas.List.Quantifiers.{position-Some}
use Rattle.std.proofs.lemmas.List.Sums.{position_or_len_is, fails_before_first, passes_at_first, prefix_len-le-length}
use Rattle.session_locks.specs.LockedPatches.{IsStart}

abbrev up : Bool → Bool
up is_locked = is_locked

module _ (start : ℕ) (locked : List Bool) (is : IsStart start locked) where
  abbrev further : ℕ
  further = position_or_len up (drop start locked)

  first_later : position_or_len up locked ≡ start + further
  first_later =
      let many = length-drop start locked in
      let most : further ≤ length (drop start locked) = prefix_len-le-length (λ (is_locked : Bool). not is_locked) (drop start locked) in
      position_or_len_is up locked (start + further) false (omega (arith, is.within)) down
      (λ within. subst (λ (b : Bool). b ≡ true) (get_or-drop start locked further false) (passes_at_first up (drop start locked) false (omega arith)))
    where
      down : (p : ℕ) → p < start + further → get_or locked p false ≡ false
      down p below =
          elim (cases_lt p start) [
            | inl less ↦ is.down p less
            | inr past ↦
                let at : start + (p - start) ≡ p = omega (arith, past) in
                sym (ap (λ (n : ℕ). get_or locked n false) at) ∙ sym (get_or-drop start locked (p - start) false)
                ∙ fails_before_first up (drop start locked) (p - start) false (omega (arith, past, below))
          ]

  pub found_later : (k : ℕ) → position up (drop start locked) ≡ Some k → position up locked ≡ Some (start + k)
  found_later k found = let first = first_later in let many = length-drop start locked in grind (arith, common_steps)

  pub none_later : position up (drop start locked) ≡ None → position up locked ≡ None
  none_later none = let first = first_later in let many = length-drop start locked in let within = is.within in grind (arith, common_steps)

-- what stands from a place on
pub from_place : (start : ℕ) (locked : List Bool) → take (length locked - start) (drop start locked) ≡ drop start locked
from_place start locked = ap (λ (n : ℕ). take n (drop start locked)) (sym (length-drop start locked)) ∙ take-length (drop start locked)

-- the least locked patch is unlocked
pub starts_at : (locked : List Bool) (p : ℕ) → position up locked ≡ Some p → IsStart p (set locked p false)
starts_at locked p found =
    let first = position-Some up locked p false found in
    record {
      within = omega (arith, length-set locked p false, first.0);
      down = λ q below. get_or-set_other locked p q false false (λ same. omega (arith, below, same)) ∙ first.2 q below;
    }
