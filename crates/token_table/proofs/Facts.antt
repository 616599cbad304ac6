-- What the rule says of the words, once a seat's view is known.
use Rattle.std.proofs.Common.{◌≡◌, ℕ, ◌≤◌, Bool, true, false, List, refl, sym, ap, subst, ◌∙◌, arith, Option, Some, None}
use mathlib.Core.Option.{some}
use lib.ListN.{get_elem?}
use Rattle.atomic_table.specs.Table.{State}
use Rattle.token_table.specs.declared.knowledge.Own.{Own}
use Rattle.token_table.specs.declared.knowledge.Desk.{Desk}
use Rattle.token_table.specs.declared.knowledge.View.{View}
use Rattle.token_table.specs.declared.knowledge.View.TheVariants.{Spent, Session, Keeper}
use Rattle.token_table.specs.Known.{has, total, uses_of, own_uses, of_guest, allowance, desk_allowance}
use Rattle.token_table.specs.WordRule.{IsKept, Holds}
use Rattle.token_table.proofs.Totals.{total-le, total-at, total-others}
use Rattle.token_table.proofs.Sets.{one_if-le}

-- a seat that knows what a keeper knows is the keeper's
pub as_keeper : {S : Type 0} (count : ℕ) (s : State S View) (id : ℕ) (desk : Desk) → Holds count s → get_elem? s.views id ≡ some (Keeper desk)
    → IsKept count id desk s.words s.views
as_keeper count s id desk (keeper, known, kept) at =
    let seat : keeper ≡ id = sym (kept.only id desk at) in
    let both : some (Keeper known) ≡ some (Keeper desk) = sym kept.sits ∙ (ap (λ (k : ℕ). get_elem? s.views k) seat ∙ at) in
    let one : known ≡ desk = cc in
    subst (λ d. IsKept count id d s.words s.views) one (subst (λ k. IsKept count k known s.words s.views) seat kept)

guest_uses-le : (p : ℕ) (guest : Option Own) → of_guest (own_uses p) guest ≤ of_guest (λ _. 1) guest
guest_uses-le p None = omega arith
guest_uses-le p (Some own) = one_if-le (has own.uses p)

module _ (count keeper : ℕ) (desk : Desk) (words : List ℕ) (views : List View) (kept : IsKept count keeper desk words views) where
  uses_below : (p : ℕ) (i : ℕ) (v : View) → get_elem? views i ≡ some v → uses_of p v ≤ allowance v
  uses_below p i Spent at = omega arith
  uses_below p i (Session own) at = one_if-le (has own.uses p)
  uses_below p i (Keeper other) at =
      let seat : i ≡ keeper = kept.only i other at in
      let both : some (Keeper desk) ≡ some (Keeper other) = sym kept.sits ∙ (ap (λ (k : ℕ). get_elem? views k) (sym seat) ∙ at) in
      let one : desk ≡ other = cc in
      subst (λ d. uses_of p (Keeper d) ≤ allowance (Keeper d)) one (let pins = kept.fits.pins p in let made = kept.fits.made in let guest = guest_uses-le p desk.guest in omega arith)

  -- a word's uses are at most the allowances
  pub uses-most : (p : ℕ) → total (uses_of p) views ≤ 65
  uses-most p = let most = total-le (uses_of p) allowance views (uses_below p) in let all = kept.allowances in omega arith

  -- where the keeper has all allowances, there are no uses but its own
  pub uses-keepers : (p : ℕ) → desk_allowance desk ≡ 65 → total (uses_of p) views ≡ uses_of p (Keeper desk)
  uses-keepers p all =
      let others = total-others (uses_of p) allowance views keeper (Keeper desk) (uses_below p) kept.sits in
      let here = total-at (uses_of p) views keeper (Keeper desk) kept.sits in
      let sum = kept.allowances in
      omega arith

  -- where a word has no uses, no session has the patch locked
  pub unlocked-session : (p : ℕ) → total (uses_of p) views ≡ 0 → (seat : ℕ) (own : Own) → get_elem? views seat ≡ some (Session own) → has own.locks p ≡ false
  unlocked-session p none seat own at = go (has own.locks p) refl
    where
      go : (b : Bool) → has own.locks p ≡ b → has own.locks p ≡ false
      go false is = is
      go true is =
          let used : has own.uses p ≡ true = (kept.holders seat own at).used p is in
          let one : own_uses p own ≡ 1 = rw used refl in
          let least = total-at (uses_of p) views seat (Session own) at in
          absurd (omega arith)
