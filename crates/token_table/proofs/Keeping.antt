-- What keeps the rule.
use Rattle.std.proofs.Common.{◌≡◌, ◌≢◌, ℕ, zero, suc, ◌+◌, ◌*◌, ◌<◌, List, [], ◌∷◌, ◌++◌, length, get_or, set, refl, sym, ap, subst, ◌∙◌, inl, inr, arith}
use Rattle.std.proofs.lemmas.List.{get_or-set_same, get_or-set_other}
use mathlib.Core.Logic.{dite}
use mathlib.Core.Option.{some, some-ne-none}
use native.Mathlib.Decide.{ℕ_discrete}
use lib.ListN.{get_elem?}
use Rattle.atomic_table.proofs.Lists.{at_set, at_snoc, set_else, at_longer}
use Rattle.token_table.specs.declared.knowledge.Own.{Own}
use Rattle.token_table.specs.declared.knowledge.Desk.{Desk}
use Rattle.token_table.specs.declared.knowledge.View.{View}
use Rattle.token_table.specs.declared.knowledge.View.TheVariants.{Spent, Session, Keeper}
use Rattle.token_table.specs.Known.{IsDesk, IsHolder, total, uses_of, allowance, numbers_of, is_made, one_if, desk_allowance, desk_numbers, own_uses}
use Rattle.token_table.specs.WordRule.{IsKept}
use Rattle.token_table.proofs.Totals.{total-set, total-push}

-- the word of each patch is its epoch times 2^32 and its uses
abbrev AreWords : ℕ → List ℕ → List ℕ → List View → Type 0
AreWords count epochs words views = (p : ℕ) → p < count → get_or words p 0 ≡ get_or epochs p 0 * 4294967296 + total (uses_of p) views

-- one word changes, and one seat's view
pub words_after : (count : ℕ) (epochs epochs' words : List ℕ) (views : List View) (id : ℕ) (v w : View) (p word : ℕ)
    → AreWords count epochs words views → length words ≡ count → p < count → get_elem? views id ≡ some v
    → word + uses_of p v ≡ get_or epochs' p 0 * 4294967296 + total (uses_of p) views + uses_of p w
    → ((q : ℕ) → q ≢ p → uses_of q w ≡ uses_of q v) → ((q : ℕ) → q ≢ p → get_or epochs' q 0 ≡ get_or epochs q 0)
    → AreWords count epochs' (set words p word) (set views id w)
words_after count epochs epochs' words views id v w p word are many within at here uses others q below = dite (ℕ_discrete q p) same apart
  where
    same : q ≡ p → get_or (set words p word) q 0 ≡ get_or epochs' q 0 * 4294967296 + total (uses_of q) (set views id w)
    same e =
        let sum = total-set (uses_of p) views id v w at in
        let read : get_or (set words p word) p 0 ≡ word = get_or-set_same words p word 0 (omega arith) in
        rw e (omega arith)

    apart : q ≢ p → get_or (set words p word) q 0 ≡ get_or epochs' q 0 * 4294967296 + total (uses_of q) (set views id w)
    apart other =
        let sum = total-set (uses_of q) views id v w at in
        let kept = uses q other in
        let read : get_or (set words p word) q 0 ≡ get_or words q 0 = get_or-set_other words p q word 0 other in
        let epoch = others q other in
        let before = are q below in
        omega arith

set_there : (views : List View) (i : ℕ) (v w : View) → get_elem? views i ≡ some v → get_elem? (set views i w) i ≡ some w
set_there [] i v w at = absurd (some-ne-none v (sym at))
set_there (x ∷ views) zero v w at = refl
set_there (x ∷ views) (suc i) v w at = set_there views i v w at

module _ (count keeper : ℕ) (desk : Desk) (words : List ℕ) (views : List View) (kept : IsKept count keeper desk words views) where
  sits_apart : (id : ℕ) (own : Own) → get_elem? views id ≡ some (Session own) → keeper ≢ id
  sits_apart id own at same = let e : some (Keeper desk) ≡ some (Session own) = sym kept.sits ∙ (ap (λ (k : ℕ). get_elem? views k) same ∙ at) in absurd (cc)

  -- a session's step
  pub session_moves : (id : ℕ) (own own' : Own) (words' : List ℕ) → get_elem? views id ≡ some (Session own) → own'.number ≡ own.number → IsHolder desk.epochs own'
      → length words' ≡ length words → AreWords count desk.epochs words' (set views id (Session own'))
      → IsKept count keeper desk words' (set views id (Session own'))
  session_moves id own own' words' at number holds many are = record {
    sits = set_else views id keeper (Session own') (sits_apart id own at) ∙ kept.sits;
    only = λ seat other there. elim (at_set views id seat (Session own') (Keeper other) there) [ inl here ↦ absurd (let e = here.1 in cc) | inr else ↦ kept.only seat other else.1 ];
    fits = kept.fits;
    holders = λ seat other there. elim (at_set views id seat (Session own') (Session other) there) [
      | inl here ↦ let e : own' ≡ other = (let both = here.1 in cc) in subst (IsHolder desk.epochs) e holds
      | inr else ↦ kept.holders seat other else.1
    ];
    many = many ∙ kept.many;
    known = kept.known;
    word_is = are;
    allowances = let sum = total-set allowance views id (Session own) (Session own') at in let before = kept.allowances in omega arith;
    numbers = λ n.
        let sum = total-set (numbers_of n) views id (Session own) (Session own') at in
        let same : numbers_of n (Session own') ≡ numbers_of n (Session own) = ap (λ (m : ℕ). numbers_of n (Session (record own { number = m }))) number in
        let before = kept.numbers n in
        omega arith;
  }

  -- the keeper's step
  pub desk_moves : (desk' : Desk) (words' : List ℕ) → IsDesk desk' → length desk'.epochs ≡ length desk.epochs
      → ((own : Own) (seat : ℕ) → get_elem? views seat ≡ some (Session own) → IsHolder desk'.epochs own)
      → desk_allowance desk' ≡ desk_allowance desk → ((n : ℕ) → desk_numbers n desk' ≡ desk_numbers n desk) → desk'.made ≡ desk.made
      → length words' ≡ length words → AreWords count desk'.epochs words' (set views keeper (Keeper desk'))
      → IsKept count keeper desk' words' (set views keeper (Keeper desk'))
  desk_moves desk' words' fits known holds allowed numbered made many are = record {
    sits = set_there views keeper (Keeper desk) (Keeper desk') kept.sits;
    only = λ seat other there. elim (at_set views keeper seat (Keeper desk') (Keeper other) there) [ inl it ↦ it.0 | inr else ↦ kept.only seat other else.1 ];
    fits = fits;
    holders = λ seat own there. elim (at_set views keeper seat (Keeper desk') (Session own) there) [ inl it ↦ absurd (let e = it.1 in cc) | inr else ↦ holds own seat else.1 ];
    many = many ∙ kept.many;
    known = known ∙ kept.known;
    word_is = are;
    allowances = let sum = total-set allowance views keeper (Keeper desk) (Keeper desk') kept.sits in let before = kept.allowances in omega arith;
    numbers = λ n.
        let sum = total-set (numbers_of n) views keeper (Keeper desk) (Keeper desk') kept.sits in
        let same = numbered n in
        let before = kept.numbers n in
        let most : one_if (is_made desk'.made n) ≡ one_if (is_made desk.made n) = ap (λ (m : ℕ). one_if (is_made m n)) made in
        omega arith;
  }

  -- a session is split off the keeper's seat
  pub desk_splits : (desk' : Desk) (own : Own) → IsDesk desk' → desk'.epochs ≡ desk.epochs → IsHolder desk'.epochs own
      → desk_allowance desk' + 1 ≡ desk_allowance desk
      → ((n : ℕ) → desk_numbers n desk' + numbers_of n (Session own) + one_if (is_made desk.made n) ≡ desk_numbers n desk + one_if (is_made desk'.made n))
      → ((p : ℕ) → uses_of p (Keeper desk') + own_uses p own ≡ uses_of p (Keeper desk))
      → IsKept count keeper desk' words (set views keeper (Keeper desk') ++ Session own ∷ [])
  desk_splits desk' own fits same holds allowed numbered uses = record {
    sits = at_longer _ (Session own ∷ []) keeper _ (set_there views keeper (Keeper desk) (Keeper desk') kept.sits);
    only = λ seat other there. elim (at_snoc (set views keeper (Keeper desk')) (Session own) (Keeper other) seat there) [
      | inl before ↦ elim (at_set views keeper seat (Keeper desk') (Keeper other) before) [ inl it ↦ it.0 | inr else ↦ kept.only seat other else.1 ]
      | inr e ↦ absurd (cc)
    ];
    fits = fits;
    holders = λ seat other there. elim (at_snoc (set views keeper (Keeper desk')) (Session own) (Session other) seat there) [
      | inl before ↦ elim (at_set views keeper seat (Keeper desk') (Session other) before) [ inl it ↦ absurd (let e = it.1 in cc) | inr else ↦ subst (λ epochs. IsHolder epochs other) (sym same) (kept.holders seat other else.1) ]
      | inr e ↦ let it : own ≡ other = cc in subst (IsHolder desk'.epochs) it holds
    ];
    many = kept.many;
    known = ap length same ∙ kept.known;
    word_is = λ p below.
        let pushed = total-push (uses_of p) (set views keeper (Keeper desk')) (Session own) in
        let sum = total-set (uses_of p) views keeper (Keeper desk) (Keeper desk') kept.sits in
        let less = uses p in
        let before = kept.word_is p below in
        let epoch : get_or desk'.epochs p 0 ≡ get_or desk.epochs p 0 = ap (λ (epochs : List ℕ). get_or epochs p 0) same in
        omega arith;
    allowances =
        let pushed = total-push allowance (set views keeper (Keeper desk')) (Session own) in
        let sum = total-set allowance views keeper (Keeper desk) (Keeper desk') kept.sits in
        let before = kept.allowances in
        omega arith;
    numbers = λ n.
        let pushed = total-push (numbers_of n) (set views keeper (Keeper desk')) (Session own) in
        let sum = total-set (numbers_of n) views keeper (Keeper desk) (Keeper desk') kept.sits in
        let more = numbered n in
        let before = kept.numbers n in
        omega arith;
  }

  -- the keeper's seat takes in a session's
  pub desk_joins : (desk' : Desk) (own : Own) (seat : ℕ) → (seat ≡ keeper → ⊥) → get_elem? (set views keeper (Keeper desk')) seat ≡ some (Session own)
      → IsDesk desk' → desk'.epochs ≡ desk.epochs → desk'.made ≡ desk.made → desk_allowance desk' ≡ desk_allowance desk + 1
      → ((n : ℕ) → desk_numbers n desk' ≡ desk_numbers n desk + numbers_of n (Session own))
      → ((p : ℕ) → uses_of p (Keeper desk') ≡ uses_of p (Keeper desk) + own_uses p own)
      → IsKept count keeper desk' words (set (set views keeper (Keeper desk')) seat Spent)
  desk_joins desk' own seat apart at fits same made allowed numbered uses = record {
    sits = set_else (set views keeper (Keeper desk')) seat keeper Spent (λ e. apart (sym e)) ∙ set_there views keeper (Keeper desk) (Keeper desk') kept.sits;
    only = λ i other there. elim (at_set (set views keeper (Keeper desk')) seat i Spent (Keeper other) there) [
      | inl it ↦ absurd (let e = it.1 in cc)
      | inr else ↦ elim (at_set views keeper i (Keeper desk') (Keeper other) else.1) [ inl it ↦ it.0 | inr before ↦ kept.only i other before.1 ]
    ];
    fits = fits;
    holders = λ i other there. elim (at_set (set views keeper (Keeper desk')) seat i Spent (Session other) there) [
      | inl it ↦ absurd (let e = it.1 in cc)
      | inr else ↦ elim (at_set views keeper i (Keeper desk') (Session other) else.1) [
        | inl it ↦ absurd (let e = it.1 in cc)
        | inr before ↦ subst (λ epochs. IsHolder epochs other) (sym same) (kept.holders i other before.1)
      ]
    ];
    many = kept.many;
    known = ap length same ∙ kept.known;
    word_is = λ p below.
        let spent = total-set (uses_of p) (set views keeper (Keeper desk')) seat (Session own) Spent at in
        let sum = total-set (uses_of p) views keeper (Keeper desk) (Keeper desk') kept.sits in
        let more = uses p in
        let before = kept.word_is p below in
        let epoch : get_or desk'.epochs p 0 ≡ get_or desk.epochs p 0 = ap (λ (epochs : List ℕ). get_or epochs p 0) same in
        omega arith;
    allowances =
        let spent = total-set allowance (set views keeper (Keeper desk')) seat (Session own) Spent at in
        let sum = total-set allowance views keeper (Keeper desk) (Keeper desk') kept.sits in
        let before = kept.allowances in
        omega arith;
    numbers = λ n.
        let spent = total-set (numbers_of n) (set views keeper (Keeper desk')) seat (Session own) Spent at in
        let sum = total-set (numbers_of n) views keeper (Keeper desk) (Keeper desk') kept.sits in
        let more = numbered n in
        let most : one_if (is_made desk'.made n) ≡ one_if (is_made desk.made n) = ap (λ (m : ℕ). one_if (is_made m n)) made in
        let before = kept.numbers n in
        omega arith;
  }
