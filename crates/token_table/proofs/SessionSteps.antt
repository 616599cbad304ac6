-- The steps of a session keep the rule.
use Rattle.std.proofs.Common.{◌≡◌, ◌≢◌, ℕ, ◌+◌, ◌*◌, ◌/◌, ◌%◌, ◌-◌, ◌<◌, ◌≤◌, Bool, true, false, List, ◌∷◌, get_or, set, refl, sym, ap, subst, ◌∙◌, arith}
use Rattle.std.proofs.Math.Nat.{mod-eq_of_lt, add-mod_right}
use Rattle.std.proofs.lemmas.Nat.{div-mul-add}
use Rattle.std.proofs.lemmas.List.{length-set}
use mathlib.Core.Logic.{dite}
use mathlib.Core.Option.{none}
use native.Mathlib.Decide.{ℕ_discrete}
use Rattle.atomic_table.specs.Table.{step, Allows, keeps}
use Rattle.file_model.specs.Tries.{is_odd}
use Rattle.token_table.specs.declared.knowledge.Own.{Own}
use Rattle.token_table.specs.declared.knowledge.View.TheVariants.{Session}
use Rattle.token_table.specs.Known.{has, without, IsHolder, total, uses_of, own_uses, one_if}
use Rattle.token_table.specs.WordRule.{IsKept, Holds}
use Rattle.token_table.specs.Changes.{after_try, after_leave, Tries, Leaves, seated}
use Rattle.token_table.proofs.Totals.{total-at}
use Rattle.token_table.proofs.Sets.{has-with, has-with_other, has-without, has-without_other}
use Rattle.token_table.proofs.Orders.{tries-more}
use Rattle.token_table.proofs.Keeping.{session_moves, words_after}
use Rattle.token_table.proofs.Facts.{uses-most}

-- a set that has one patch more exactly where a test says so
abbrev grown : Bool → ℕ → List ℕ → List ℕ
grown true p patches = p ∷ patches
grown false p patches = patches

-- a lock that is gained by a granted try
locks_after : (p e : ℕ) (own : Own) (odd : Bool) → is_odd e ≡ odd → (after_try p e own).locks ≡ grown odd p own.locks
locks_after p e own true is = rw is refl
locks_after p e own false is = rw is refl

has-grown_other : (odd : Bool) (p q : ℕ) (patches : List ℕ) → q ≢ p → has (grown odd p patches) q ≡ has patches q
has-grown_other true p q patches apart = has-with_other patches p q apart
has-grown_other false p q patches apart = refl

module _ (epochs : List ℕ) (own : Own) (p : ℕ) (holds : IsHolder epochs own) where
  after : Own
  after = after_try p (get_or epochs p 0) own

  module _ (odd : Bool) (is : is_odd (get_or epochs p 0) ≡ odd) where
    used : (q : ℕ) → has (grown odd p own.locks) q ≡ true → has (p ∷ own.uses) q ≡ true
    used q locked = dite (ℕ_discrete q p)
        (λ same. subst (λ (r : ℕ). has (p ∷ own.uses) r ≡ true) (sym same) (has-with own.uses p))
        (λ apart. has-with_other own.uses p q apart ∙ holds.used q (sym (has-grown_other odd p q own.locks apart) ∙ locked))

    granted : has (grown odd p own.locks) p ≡ true → has own.locks p ≡ false → odd ≡ true
    granted locked free = go odd locked
      where
        go : (b : Bool) → has (grown b p own.locks) p ≡ true → b ≡ true
        go true locked = refl
        go false locked = absurd (let e : true ≡ false = sym locked ∙ free in cc)

    there : has own.locks p ≡ false → (q : ℕ) → has (grown odd p own.locks) q ≡ true → is_odd (get_or epochs q 0) ≡ true
    there free q locked = dite (ℕ_discrete q p)
        (λ same. subst (λ (r : ℕ). is_odd (get_or epochs r 0) ≡ true) (sym same)
        (is ∙ granted (subst (λ (r : ℕ). has (grown odd p own.locks) r ≡ true) same locked) free))
        (λ apart. holds.there q (sym (has-grown_other odd p q own.locks apart) ∙ locked))

  unlocked : has own.uses p ≡ false → has own.locks p ≡ false
  unlocked free = go (has own.locks p) refl
    where
      go : (b : Bool) → has own.locks p ≡ b → has own.locks p ≡ false
      go false is = is
      go true is = absurd (let e : true ≡ false = sym (holds.used p is) ∙ free in cc)

  -- a try leaves locks that are uses of patches that are there
  pub holder-after_try : has own.uses p ≡ false → IsHolder epochs (after_try p (get_or epochs p 0) own)
  holder-after_try free =
      let odd : Bool = is_odd (get_or epochs p 0) in
      let locks : (after_try p (get_or epochs p 0) own).locks ≡ grown odd p own.locks = locks_after p (get_or epochs p 0) own odd refl in
      record {
        used = λ q locked. used odd refl q (ap (λ (ls : List ℕ). has ls q) (sym locks) ∙ locked);
        there = λ q locked. there odd refl (unlocked free) q (ap (λ (ls : List ℕ). has ls q) (sym locks) ∙ locked);
        tries = tries-more epochs own.tries p holds.tries;
      }

  left_locks : (q : ℕ) → has (without own.locks p) q ≡ true → (q ≢ p) × (has own.locks q ≡ true)
  left_locks q locked = dite (ℕ_discrete q p)
      (λ same. absurd (let e : true ≡ false = sym locked ∙ (ap (λ (r : ℕ). has (without own.locks p) r) same ∙ has-without own.locks p) in cc))
      (λ apart. (apart, sym (has-without_other own.locks p q apart) ∙ locked))

  pub holder-after_leave : IsHolder epochs (after_leave p own)
  holder-after_leave = record {
    used = λ q locked. let l = left_locks q locked in has-without_other own.uses p q l.0 ∙ holds.used q l.1;
    there = λ q locked. holds.there q (left_locks q locked).1;
    tries = holds.tries;
  }

module _ (S : Type 0) (count slots id p : ℕ) (own : Own) (within : p < count) where
  -- a try adds one use
  pub try_allowed : has own.uses p ≡ false
      → Allows (Holds {S = S} count) slots id (seated {S = S} (Session own)) p (λ n. (n + 1) % 18446744073709551616) (Tries (step slots p 1 0 none) (seated {S = S} (Session own)))
  try_allowed free s (keeper, desk, kept) sized at fits =
      let word : ℕ = get_or s.words p 0 in
      let epoch : ℕ = get_or desk.epochs p 0 in
      let uses : ℕ = total (uses_of p) s.views in
      let is : word ≡ epoch * 4294967296 + uses = kept.word_is p within in
      let few : uses ≤ 65 = uses-most count keeper desk s.words s.views kept p in
      let last : epoch ≤ 4294967294 = kept.fits.last p in
      let found : word / 4294967296 ≡ epoch = rw is (div-mul-add epoch 4294967296 uses (omega arith)) in
      let whole : (word + 1) % 18446744073709551616 ≡ word + 1 = mod-eq_of_lt (omega arith) in
      let own' : Own = after_try p epoch own in
      let less : own_uses p own ≡ 0 = ap one_if free in
      let more : own_uses p own' ≡ 1 = ap one_if (has-with own.uses p) in
      let stays : (q : ℕ) → q ≢ p → uses_of q (Session own') ≡ uses_of q (Session own) = λ q apart. ap one_if (has-with_other own.uses p q apart) in
      let sum : word + 1 + uses_of p (Session own) ≡ epoch * 4294967296 + uses + uses_of p (Session own') = omega arith in
      let words = words_after count desk.epochs desk.epochs s.words s.views id (Session own) (Session own') p (word + 1) kept.word_is kept.many within at sum stays (λ q apart. refl) in
      let holds = holder-after_try desk.epochs own p (kept.holders id own at) free in
      let after : IsKept count keeper desk (set s.words p (word + 1)) (set s.views id (Session own')) =
      session_moves count keeper desk s.words s.views kept id own own' (set s.words p (word + 1)) at refl holds (length-set s.words p (word + 1)) words in (
        Session own',
        keeps,
        tt,
        (keeper, desk, rw whole after),
        λ other is_own. let same : own ≡ other = cc in rw found (ap (λ (o : Own). (seated {S = S} (Session (after_try p epoch o)))) same),
      )

  -- a withdrawal or a given back lock takes one use away
  pub leave_allowed : has own.uses p ≡ true
      → Allows (Holds {S = S} count) slots id (seated {S = S} (Session own)) p (λ n. (n + 18446744073709551615) % 18446744073709551616) (Leaves (step slots p 1 0 none) (seated {S = S} (Session own)))
  leave_allowed uses_it s (keeper, desk, kept) sized at fits =
      let word : ℕ = get_or s.words p 0 in
      let epoch : ℕ = get_or desk.epochs p 0 in
      let uses : ℕ = total (uses_of p) s.views in
      let is : word ≡ epoch * 4294967296 + uses = kept.word_is p within in
      let one : own_uses p own ≡ 1 = ap one_if uses_it in
      let least : uses_of p (Session own) ≤ uses = total-at (uses_of p) s.views id (Session own) at in
      let turn : word + 18446744073709551615 ≡ (word - 1) + 18446744073709551616 = omega arith in
      let whole : (word + 18446744073709551615) % 18446744073709551616 ≡ word - 1 = rw turn (add-mod_right (word - 1) 18446744073709551616 ∙ mod-eq_of_lt (omega arith)) in
      let own' : Own = after_leave p own in
      let none_left : own_uses p own' ≡ 0 = ap one_if (has-without own.uses p) in
      let stays : (q : ℕ) → q ≢ p → uses_of q (Session own') ≡ uses_of q (Session own) = λ q apart. ap one_if (has-without_other own.uses p q apart) in
      let sum : (word - 1) + uses_of p (Session own) ≡ epoch * 4294967296 + uses + uses_of p (Session own') = omega arith in
      let words = words_after count desk.epochs desk.epochs s.words s.views id (Session own) (Session own') p (word - 1) kept.word_is kept.many within at sum stays (λ q apart. refl) in
      let holds = holder-after_leave desk.epochs own p (kept.holders id own at) in
      let after : IsKept count keeper desk (set s.words p (word - 1)) (set s.views id (Session own')) =
      session_moves count keeper desk s.words s.views kept id own own' (set s.words p (word - 1)) at refl holds (length-set s.words p (word - 1)) words in (
        Session own',
        keeps,
        tt,
        (keeper, desk, rw whole after),
        λ other is_own. let same : own ≡ other = cc in ap (λ (o : Own). (seated {S = S} (Session (after_leave p o)))) same,
      )
