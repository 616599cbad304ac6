-- Lists that grow at their end.
use Rattle.std.proofs.Common.{◌≡◌, ℕ, zero, suc, ◌+◌, ◌*◌, ◌<◌, false, not, List, [], ◌∷◌, ◌++◌, length, get_or, take, refl, sym, ap, ◌∙◌, arith, Option, Some, nat_eq, length-append}
use Rattle.std.specs.List.{slice_get}
use Rattle.std.specs.Option.{option_map_or}
use Rattle.std.proofs.lemmas.List.{length-take, get_or-take}
use mathlib.Core.Logic.{dite}
use mathlib.Core.Option.{some, some-injective, some-ne-none}
use native.Mathlib.Decide.{ℕ_discrete}
use lib.ListN.{get_elem?}
use Rattle.token_words.specs.declared.entries.Word.{Word}
use Rattle.token_table.specs.Closings.{AreRead}

module _ {X : Type 0} where
  slice_get-push : (xs : List X) (x : X) (p : ℕ) → p < length xs → slice_get (xs ++ x ∷ []) p ≡ slice_get xs p
  slice_get-push [] x p within = absurd (omega arith)
  slice_get-push (y ∷ xs) x zero within = refl
  slice_get-push (y ∷ xs) x (suc p) within = slice_get-push xs x p (omega arith)

  slice_get-last : (xs : List X) (x : X) (p : ℕ) → p ≡ length xs → slice_get (xs ++ x ∷ []) p ≡ Some x
  slice_get-last [] x zero last = refl
  slice_get-last [] x (suc p) last = absurd (omega arith)
  slice_get-last (y ∷ xs) x zero last = absurd (omega arith)
  slice_get-last (y ∷ xs) x (suc p) last = slice_get-last xs x p (omega arith)

  pub get_or-elem : (xs : List X) (i : ℕ) (x d : X) → get_elem? xs i ≡ some x → get_or xs i d ≡ x
  get_or-elem [] i x d at = absurd (some-ne-none x (sym at))
  get_or-elem (y ∷ xs) zero x d at = some-injective y x at
  get_or-elem (y ∷ xs) (suc i) x d at = get_or-elem xs i x d at

-- one more word
pub read-more : (epochs numbers : List ℕ) (words : List Word) (word : Word) (i : ℕ) → i < length epochs → AreRead (take i epochs) numbers words
    → word.epoch ≡ get_or epochs i 0 → word.is_pinned ≡ not (nat_eq (get_or numbers i 0) (get_or epochs i 0 * 4294967296))
    → AreRead (take (i + 1) epochs) numbers (words ++ word ∷ [])
read-more epochs numbers words word i within are epoch pin =
    let few : length words ≡ i = (let many = are.many in omega (arith, length-take i epochs)) in
    record {
      many = omega (arith, length-append words (word ∷ []), length-take (i + 1) epochs);
      epoch_is = λ p below. dite (ℕ_discrete p i)
          (λ same. ap (λ (w : Option Word). option_map_or (λ word. word.epoch) w 0) (slice_get-last words word p (same ∙ sym few))
          ∙ (epoch ∙ (ap (λ (q : ℕ). get_or epochs q 0) (sym same) ∙ sym (get_or-take (i + 1) epochs p 0 (omega arith)))))
          (λ apart.
          let less : p < i = omega (arith, length-take (i + 1) epochs) in
          ap (λ (w : Option Word). option_map_or (λ word. word.epoch) w 0) (slice_get-push words word p (omega arith))
          ∙ (are.epoch_is p (omega (arith, length-take i epochs)) ∙ (get_or-take i epochs p 0 less ∙ sym (get_or-take (i + 1) epochs p 0 (omega arith)))));
      pin_is = λ p below. dite (ℕ_discrete p i)
          (λ same. ap (λ (w : Option Word). option_map_or (λ word. word.is_pinned) w false) (slice_get-last words word p (same ∙ sym few))
          ∙ (pin ∙ (ap (λ (q : ℕ). not (nat_eq (get_or numbers q 0) (get_or epochs q 0 * 4294967296))) (sym same)
          ∙ ap (λ (e : ℕ). not (nat_eq (get_or numbers p 0) (e * 4294967296))) (sym (get_or-take (i + 1) epochs p 0 (omega arith))))))
          (λ apart.
          let less : p < i = omega (arith, length-take (i + 1) epochs) in
          ap (λ (w : Option Word). option_map_or (λ word. word.is_pinned) w false) (slice_get-push words word p (omega arith))
          ∙ (are.pin_is p (omega (arith, length-take i epochs))
          ∙ ap (λ (e : ℕ). not (nat_eq (get_or numbers p 0) (e * 4294967296))) (get_or-take i epochs p 0 less ∙ sym (get_or-take (i + 1) epochs p 0 (omega arith)))));
    }
