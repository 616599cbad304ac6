-- The steps of the keeper keep the rule.
use Rattle.std.proofs.Common.{◌≡◌, ◌≢◌, ℕ, ◌+◌, ◌*◌, ◌%◌, ◌<◌, ◌≤◌, Bool, true, false, List, [], ◌∷◌, ◌++◌, length, get_or, set, refl, sym, ap, subst, ◌∙◌, arith, Option, Some, None, eqb, eq-eqb, ne_eqb}
use Rattle.std.specs.Prelude.{◌==◌}
use Rattle.std.proofs.Math.Nat.{mod-eq_of_lt}
use Rattle.std.proofs.lemmas.List.{length-set, get_or-set_same, get_or-set_other}
use Rattle.std.proofs.lemmas.List.Elements.{All-push, All-weaker}
use Rattle.std.proofs.lemmas.Bool.{eqb-true}
use mathlib.Core.Logic.{dite}
use mathlib.Core.Option.{some, none}
use native.Mathlib.Decide.{ℕ_discrete}
use lib.ListN.{get_elem?}
use prog.Atomic.{either}
use Rattle.atomic_table.specs.Table.{State, step, Allows, keeps, Act, Valid, stepped, carried_after}
use Rattle.file_model.specs.Tries.{is_odd}
use Rattle.token_table.specs.declared.knowledge.Own.{Own}
use Rattle.token_table.specs.declared.knowledge.Ended.{Ended}
use Rattle.token_table.specs.declared.knowledge.Desk.{Desk}
use Rattle.token_table.specs.declared.knowledge.View.{View}
use Rattle.token_table.specs.declared.knowledge.View.TheVariants.{Session, Keeper}
use Rattle.token_words.specs.Tries.{AreTries}
use Rattle.token_table.specs.Known.{has, IsHolder, IsGuest, IsDesk, total, uses_of, own_uses, of_guest, one_if, desk_allowance, desk_numbers}
use Rattle.token_table.specs.WordRule.{IsKept, Holds}
use Rattle.token_table.specs.Changes.{with_risen, after_eviction, Admits, Evicts, Watches, seated}
use Rattle.token_table.proofs.Totals.{total-at}
use Rattle.token_table.proofs.Sets.{nat_eq-other}
use Rattle.token_table.proofs.Orders.{tries-later}
use Rattle.token_table.proofs.Keeping.{desk_moves, words_after}
use Rattle.token_table.proofs.Facts.{as_keeper, uses-most, unlocked-session}

-- the locks that a guest has of a patch
abbrev guest_locks : ℕ → Option Own → ℕ
guest_locks p guest = of_guest (λ own. one_if (has own.locks p)) guest

not_locked : (b : Bool) → one_if b ≡ 0 → b ≡ false
not_locked false free = refl
not_locked true free = absurd (omega arith)

-- an epoch rises by one
module _ (epochs : List ℕ) (p : ℕ) (within : p < length epochs) where
  abbrev risen : List ℕ
  risen = set epochs p (get_or epochs p 0 + 1)

  up : (q : ℕ) → get_or epochs q 0 ≤ get_or (set epochs p (get_or epochs p 0 + 1)) q 0
  up q = dite (ℕ_discrete q p)
      (λ same. rw same (let e = get_or-set_same epochs p (get_or epochs p 0 + 1) 0 within in omega arith))
      (λ apart. let e = get_or-set_other epochs p q (get_or epochs p 0 + 1) 0 apart in omega arith)

  holder_risen : (own : Own) → IsHolder epochs own → has own.locks p ≡ false → IsHolder (set epochs p (get_or epochs p 0 + 1)) own
  holder_risen own holds free = record {
    used = holds.used;
    there = λ q locked. dite (ℕ_discrete q p)
        (λ same. absurd (let e : true ≡ false = sym locked ∙ (ap (λ (r : ℕ). has own.locks r) same ∙ free) in cc))
        (λ apart. ap is_odd (get_or-set_other epochs p q (get_or epochs p 0 + 1) 0 apart) ∙ holds.there q locked);
    tries = tries-later epochs _ own.tries up holds.tries;
  }

  guest_risen : (guest : Option Own) → IsGuest epochs guest → guest_locks p guest ≡ 0 → IsGuest (set epochs p (get_or epochs p 0 + 1)) guest
  guest_risen None holds free = tt
  guest_risen (Some own) holds free = holder_risen own holds (not_locked (has own.locks p) free)

  ended_risen : (session : Ended) → AreTries epochs session.tries → AreTries (set epochs p (get_or epochs p 0 + 1)) session.tries
  ended_risen session are = tries-later epochs _ session.tries up are

desk_risen : (desk : Desk) (p : ℕ) → IsDesk desk → p < length desk.epochs → get_or desk.epochs p 0 < 4294967294 → get_or desk.pins p 0 ≡ 0
    → guest_locks p desk.guest ≡ 0 → IsDesk (with_risen p desk)
desk_risen desk p fits within low unpinned free = record {
  last = λ q. dite (ℕ_discrete q p)
      (λ same. rw same (let e = get_or-set_same desk.epochs p (get_or desk.epochs p 0 + 1) 0 within in omega arith))
      (λ apart. let e = get_or-set_other desk.epochs p q (get_or desk.epochs p 0 + 1) 0 apart in let before = fits.last q in omega arith);
  pins = fits.pins;
  pinned = λ q pin. dite (ℕ_discrete q p)
      (λ same. absurd (let e : get_or desk.pins q 0 ≡ get_or desk.pins p 0 = ap (λ (r : ℕ). get_or desk.pins r 0) same in omega arith))
      (λ apart. ap is_odd (get_or-set_other desk.epochs p q (get_or desk.epochs p 0 + 1) 0 apart) ∙ fits.pinned q pin);
  made = fits.made;
  guest = guest_risen desk.epochs p within desk.guest fits.guest free;
  ended = All-weaker (λ (session : Ended). AreTries desk.epochs session.tries) (λ (session : Ended). AreTries (set desk.epochs p (get_or desk.epochs p 0 + 1)) session.tries)
      (ended_risen desk.epochs p within) desk.ended fits.ended;
  misses = fits.misses;
}

-- what a patch with an even epoch can't have
unpinned_even : (desk : Desk) (p : ℕ) → IsDesk desk → is_odd (get_or desk.epochs p 0) ≡ false → get_or desk.pins p 0 ≡ 0
unpinned_even desk p fits even = dite (ℕ_discrete (get_or desk.pins p 0) 1)
    (λ pin. absurd (let e : true ≡ false = sym (fits.pinned p pin) ∙ even in cc))
    (λ other. let most = fits.pins p in omega arith)

locks_even : (epochs : List ℕ) (p : ℕ) (own : Own) → IsHolder epochs own → is_odd (get_or epochs p 0) ≡ false → has own.locks p ≡ false
locks_even epochs p own holds even = go (has own.locks p) refl
  where
    go : (b : Bool) → has own.locks p ≡ b → has own.locks p ≡ false
    go false is = is
    go true is = absurd (let e : true ≡ false = sym (holds.there p is) ∙ even in cc)

guest_even : (epochs : List ℕ) (p : ℕ) (guest : Option Own) → IsGuest epochs guest → is_odd (get_or epochs p 0) ≡ false → guest_locks p guest ≡ 0
guest_even epochs p None holds even = refl
guest_even epochs p (Some own) holds even = ap one_if (locks_even epochs p own holds even)

-- what a patch with no use can't have
guest_unused : (epochs : List ℕ) (p : ℕ) (guest : Option Own) → IsGuest epochs guest → of_guest (own_uses p) guest ≡ 0 → guest_locks p guest ≡ 0
guest_unused epochs p None holds unused = refl
guest_unused epochs p (Some own) holds unused = ap one_if (go (has own.locks p) refl)
  where
    go : (b : Bool) → has own.locks p ≡ b → has own.locks p ≡ false
    go false is = is
    go true is = absurd (let e : own_uses p own ≡ 1 = ap one_if (holds.used p is) in omega arith)

-- a patch that is there hasn't the last epoch
below_last : (epoch : ℕ) → epoch ≤ 4294967294 → is_odd epoch ≡ true → epoch < 4294967294
below_last epoch most odd = let rest : epoch % 2 ≡ 1 = eqb-true (epoch % 2) 1 odd in omega arith

missed : (desk : Desk) (p uses : ℕ) → IsDesk desk → 1 ≤ uses → IsDesk (record desk { misses = desk.misses ++ (p, uses) ∷ [] })
missed desk p uses fits least = record {
  last = fits.last;
  pins = fits.pins;
  pinned = fits.pinned;
  made = fits.made;
  guest = fits.guest;
  ended = fits.ended;
  misses = All-push (λ (miss : ℕ × ℕ). 1 ≤ miss.1) desk.misses (p, uses) fits.misses least;
}

module _ (S : Type 0) (count slots id p : ℕ) (desk : Desk) (within : p < count) where
  -- the word and what the keeper knows after the patch came or left
  rises : (s : State S View) → IsKept count id desk s.words s.views → (word : ℕ) → word ≡ get_or s.words p 0 + 4294967296
      → get_or desk.epochs p 0 < 4294967294 → get_or desk.pins p 0 ≡ 0 → guest_locks p desk.guest ≡ 0
      → ((seat : ℕ) (own : Own) → get_elem? s.views seat ≡ some (Session own) → has own.locks p ≡ false)
      → IsKept count id (with_risen p desk) (set s.words p word) (set s.views id (Keeper (with_risen p desk)))
  rises s kept word is low unpinned free unlocked =
      let inside : p < length desk.epochs = (let known = kept.known in omega arith) in
      let fits = desk_risen desk p kept.fits inside low unpinned free in
      let read : get_or (set desk.epochs p (get_or desk.epochs p 0 + 1)) p 0 ≡ get_or desk.epochs p 0 + 1 = get_or-set_same desk.epochs p (get_or desk.epochs p 0 + 1) 0 inside in
      let before = kept.word_is p within in
      let sum : word + uses_of p (Keeper desk) ≡ get_or (set desk.epochs p (get_or desk.epochs p 0 + 1)) p 0 * 4294967296 + total (uses_of p) s.views + uses_of p (Keeper desk) = rw read (omega arith) in
      let words = words_after count desk.epochs (set desk.epochs p (get_or desk.epochs p 0 + 1)) s.words s.views id (Keeper desk) (Keeper (with_risen p desk)) p word
      kept.word_is kept.many within kept.sits sum (λ q apart. refl) (λ q apart. get_or-set_other desk.epochs p q (get_or desk.epochs p 0 + 1) 0 apart) in
      desk_moves count id desk s.words s.views kept (with_risen p desk) (set s.words p word) fits (length-set desk.epochs p (get_or desk.epochs p 0 + 1))
      (λ own seat at. holder_risen desk.epochs p inside own (kept.holders seat own at) (unlocked seat own at)) refl (λ n. refl) refl (length-set s.words p word) words

  -- an admission adds 2^32
  pub admit_allowed : is_odd (get_or desk.epochs p 0) ≡ false → get_or desk.epochs p 0 < 4294967294
      → Allows (Holds {S = S} count) slots id (seated {S = S} (Keeper desk)) p (λ n. (n + 4294967296) % 18446744073709551616) (Admits (step slots p 4294967296 0 none) (seated {S = S} (Keeper desk)))
  admit_allowed even low s holds sized at fits =
      let kept : IsKept count id desk s.words s.views = as_keeper count s id desk holds at in
      let few = uses-most count id desk s.words s.views kept p in
      let is = kept.word_is p within in
      let whole : (get_or s.words p 0 + 4294967296) % 18446744073709551616 ≡ get_or s.words p 0 + 4294967296 = mod-eq_of_lt (omega arith) in
      let after = rises s kept (get_or s.words p 0 + 4294967296) refl low (unpinned_even desk p kept.fits even) (guest_even desk.epochs p desk.guest kept.fits.guest even)
      (λ seat own there. locks_even desk.epochs p own (kept.holders seat own there) even) in (
        Keeper (with_risen p desk),
        keeps,
        tt,
        (id, with_risen p desk, rw whole after),
        λ other same. let one : desk ≡ other = cc in (ap (λ (d : Desk). seated {S = S} (Keeper (with_risen p d))) one, subst (λ d. IsDesk (with_risen p d)) one after.fits),
      )

  stays : (s : State S View) → IsKept count id desk s.words s.views → (desk' : Desk) → IsDesk desk' → desk' ≡ record desk { misses = desk'.misses }
      → IsKept count id desk' (set s.words p (get_or s.words p 0)) (set s.views id (Keeper desk'))
  stays s kept desk' fits same =
      let epochs : desk'.epochs ≡ desk.epochs = ap (λ (d : Desk). d.epochs) same in
      let before = kept.word_is p within in
      let uses : (q : ℕ) → uses_of q (Keeper desk') ≡ uses_of q (Keeper desk) = λ q. ap (λ (d : Desk). uses_of q (Keeper d)) same in
      let here = uses p in
      let read : (q : ℕ) → get_or desk'.epochs q 0 ≡ get_or desk.epochs q 0 = λ q. ap (λ (es : List ℕ). get_or es q 0) epochs in
      let there = read p in
      let sum : get_or s.words p 0 + uses_of p (Keeper desk) ≡ get_or desk'.epochs p 0 * 4294967296 + total (uses_of p) s.views + uses_of p (Keeper desk') = rw (there, here) (omega arith) in
      let words = words_after count desk.epochs desk'.epochs s.words s.views id (Keeper desk) (Keeper desk') p (get_or s.words p 0)
      kept.word_is kept.many within kept.sits sum (λ q apart. uses q) (λ q apart. read q) in
      desk_moves count id desk s.words s.views kept desk' (set s.words p (get_or s.words p 0)) fits (ap length epochs)
      (λ own seat there. subst (λ es. IsHolder es own) (sym epochs) (kept.holders seat own there))
      (ap (λ (d : Desk). desk_allowance d) same) (λ n. ap (λ (d : Desk). desk_numbers n d) same)
      (ap (λ (d : Desk). d.made) same) (length-set s.words p (get_or s.words p 0)) words

  -- an eviction goes through exactly where there was no use, and else keeps the uses found
  pub evict_allowed : (old new : ℕ) → old ≡ get_or desk.epochs p 0 * 4294967296 → new ≡ old + 4294967296 → is_odd (get_or desk.epochs p 0) ≡ true
      → Allows (Holds {S = S} count) slots id (seated {S = S} (Keeper desk)) p (λ n. either (n == old) new n) (Evicts (step slots p old new none) (seated {S = S} (Keeper desk)))
  evict_allowed old new expects turns odd s holds sized at fits =
      let kept : IsKept count id desk s.words s.views = as_keeper count s id desk holds at in
      dite (ℕ_discrete (total (uses_of p) s.views) 0) (won kept) (lost kept)
    where
      won : IsKept count id desk s.words s.views → total (uses_of p) s.views ≡ 0
          → (w : View) × (a : Act S) × Valid s.homes [] a
          × Holds count (stepped s p (either (get_or s.words p 0 == old) new (get_or s.words p 0)) id [] w a)
          × Evicts (step slots p old new none) (seated {S = S} (Keeper desk)) (get_or s.words p 0) (w, carried_after [] a)
      won kept unused =
          let is = kept.word_is p within in
          let hit : eqb (get_or s.words p 0) old ≡ true = eq-eqb (get_or s.words p 0) old (omega arith) in
          let least = total-at (uses_of p) s.views id (Keeper desk) kept.sits in
          let low = below_last (get_or desk.epochs p 0) (kept.fits.last p) odd in
          let after = rises s kept new (omega arith) low (omega arith) (guest_unused desk.epochs p desk.guest kept.fits.guest (omega arith))
          (unlocked-session count id desk s.words s.views kept p unused) in (
            Keeper (with_risen p desk),
            keeps,
            tt,
            (id, with_risen p desk, rw hit after),
            λ other same. let one : desk ≡ other = cc in
                subst (λ d. (uses : ℕ) × (get_or s.words p 0 ≡ get_or d.epochs p 0 * 4294967296 + uses) × (uses ≤ 65) × ((seated {S = S} (Keeper (with_risen p desk))) ≡ (seated {S = S} (Keeper (after_eviction p uses d)))) × IsDesk (after_eviction p uses d)) one
                (0, omega arith, omega arith, refl, after.fits),
          )

      lost : IsKept count id desk s.words s.views → total (uses_of p) s.views ≢ 0
          → (w : View) × (a : Act S) × Valid s.homes [] a
          × Holds count (stepped s p (either (get_or s.words p 0 == old) new (get_or s.words p 0)) id [] w a)
          × Evicts (step slots p old new none) (seated {S = S} (Keeper desk)) (get_or s.words p 0) (w, carried_after [] a)
      lost kept used =
          let is = kept.word_is p within in
          let uses : ℕ = total (uses_of p) s.views in
          let few : uses ≤ 65 = uses-most count id desk s.words s.views kept p in
          let miss : eqb (get_or s.words p 0) old ≡ false = ne_eqb (get_or s.words p 0) old (λ e. used (omega arith)) in
          let desk' : Desk = record desk { misses = desk.misses ++ (p, uses) ∷ [] } in
          let is_missed : after_eviction p uses desk ≡ desk' = rw (nat_eq-other uses 0 used) refl in
          let after : IsKept count id desk' (set s.words p (get_or s.words p 0)) (set s.views id (Keeper desk')) = stays s kept desk' (missed desk p uses kept.fits (omega arith)) refl in (
            Keeper desk',
            keeps,
            tt,
            (id, desk', rw miss after),
            λ other same. let one : desk ≡ other = cc in
                subst (λ d. (uses : ℕ) × (get_or s.words p 0 ≡ get_or d.epochs p 0 * 4294967296 + uses) × (uses ≤ 65) × ((seated {S = S} (Keeper desk')) ≡ (seated {S = S} (Keeper (after_eviction p uses d)))) × IsDesk (after_eviction p uses d)) one
                (uses, is, few, ap (λ (d : Desk). (seated {S = S} (Keeper d))) (sym is_missed), subst IsDesk (sym is_missed) after.fits),
          )

  -- a load shows that what the keeper knows fits
  pub watch_allowed : Allows (Holds {S = S} count) slots id (seated {S = S} (Keeper desk)) p (λ n. n) (Watches (step slots p 0 0 none) (seated {S = S} (Keeper desk)))
  watch_allowed s holds sized at fits =
      let kept : IsKept count id desk s.words s.views = as_keeper count s id desk holds at in
      let after = stays s kept desk kept.fits refl in (
        Keeper desk,
        keeps,
        tt,
        (id, desk, after),
        λ other same. let one : desk ≡ other = cc in (ap (λ (d : Desk). (seated {S = S} (Keeper d))) one, subst IsDesk one kept.fits),
      )
