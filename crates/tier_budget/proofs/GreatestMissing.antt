-- The greatest of the heap of the missing patches that fits is the highest that is missing and fits.
use Rattle.std.proofs.Common.{◌≡◌, ℕ, ◌<◌, inl, inr, Bool, true, false, List, Option, Some, None, IfNone, IfSome, refl, sym, ap, subst, ◌∙◌, arith}
use Rattle.std.specs.Prelude.{cond}
use Rattle.std.proofs.lemmas.Bool.{cases_Bool}
use Rattle.std.proofs.lemmas.Option.{same_Some}
use Rattle.tier_heap.specs.Entries.{rank_at, is_above, NoneFits, IsGreatestBy}
use Rattle.tier_heap.specs.Laws.{id_in_range}
use Rattle.tier_model.specs.Tiers.{TierState, count, kept_wish}
use Rattle.tier_model.specs.Ranks.{outranks}
use Rattle.tier_model.specs.Choices.{IsTopmostBy, ChoosesBy, OrAnswers, is_missing}
use Rattle.tier_budget.specs.Heaps.{IsMissing}

or_refused : (asked : Bool) (answers : Bool → Type 0) → asked ≡ false → OrAnswers asked answers false
or_refused asked answers not_asked = subst (λ (b : Bool). OrAnswers b answers false) (sym not_asked) refl

or_answered : (asked : Bool) (answers : Bool → Type 0) (answer : Bool) → asked ≡ true → answers answer → OrAnswers asked answers answer
or_answered asked answers answer is_asked told = subst (λ (b : Bool). OrAnswers b answers answer) (sym is_asked) told

-- what has a rank is missing, and the rank is its wish
missing_if_ranked : (missing : Bool) (wish rank : ℕ) → cond missing (Some wish) None ≡ Some rank → (missing ≡ true) × (wish ≡ rank)
missing_if_ranked true wish rank is = (refl, same_Some wish rank is)
missing_if_ranked false wish rank is = absurd (cc)

module _ (s : TierState) (heap : List (Option ℕ)) (answers : ℕ → Bool → Type 0) where
  ranked : IsMissing s heap → (q : ℕ) → q < count s → is_missing s q ≡ true → rank_at heap q ≡ Some (kept_wish s q)
  ranked is q within missing = is.each q within ∙ ap (λ (b : Bool). cond b (Some (kept_wish s q)) None) missing

  -- what is missing was answered not to fit
  refused : IsMissing s heap → (q : ℕ) → q < count s → (is_missing s q ≡ true → answers q false) → OrAnswers (is_missing s q) (answers q) false
  refused is q within told = elim (cases_Bool (is_missing s q)) [
    | inl missing ↦ or_answered (is_missing s q) (answers q) false missing (told missing)
    | inr never ↦ or_refused (is_missing s q) (answers q) never
  ]

  greatest_is : IsMissing s heap → (p : ℕ) → IsGreatestBy heap answers p → IsTopmostBy (count s) (λ q answer. OrAnswers (is_missing s q) (answers q) answer) (outranks (kept_wish s)) p
  unfolding outranks
  greatest_is is p greatest =
      let within : p < count s = (let there = id_in_range heap p (rw greatest.entry refl) in let many = is.all_patches in omega arith) in
      let ranks = missing_if_ranked (is_missing s p) (kept_wish s p) greatest.rank (sym (is.each p within) ∙ greatest.entry) in
      record {
        within = within;
        passes = or_answered (is_missing s p) (answers p) true ranks.0 greatest.fits;
        beats = λ q less ne. elim (cases_Bool (is_missing s q)) [
          | inr never ↦ inl (or_refused (is_missing s q) (answers q) never)
          | inl missing ↦ elim (greatest.above q (kept_wish s q) (ranked is q less missing) ne) [
            | inl told ↦ inl (or_answered (is_missing s q) (answers q) false missing told)
            | inr above ↦ inr (subst (λ (w : ℕ). is_above (p, w) (q, kept_wish s q) ≡ true) (sym ranks.1) above)
          ]
        ];
      }

  pub greatest_chooses : IsMissing s heap → (found : Option ℕ) → IfNone found (NoneFits heap answers) → IfSome found (IsGreatestBy heap answers) → ChoosesBy (count s) (λ q answer. OrAnswers (is_missing s q) (answers q) answer) (outranks (kept_wish s)) found
  greatest_chooses is None none some = λ q within. refused is q within (λ missing. none q (kept_wish s q) (ranked is q within missing))
  greatest_chooses is (Some p) none some = greatest_is is p some
