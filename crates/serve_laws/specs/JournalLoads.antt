-- A journal that can be replayed never takes its tier past its budget.
use Rattle.std.proofs.Common.{◌≡◌, ℕ, zero, suc, ◌+◌, ◌≤◌, Bool, List, [], ◌∷◌, ◌++◌, length, take, Some, sym, subst, arith, inl, inr, length-append}
use Rattle.std.specs.Prelude.{slice_get}
use Rattle.std.proofs.lemmas.Bool.{cases_lt}
use Rattle.std.proofs.lemmas.List.{take_all, take-append-le}
use Rattle.tier_model.specs.declared.turns.Turn.{Turn}
use Rattle.tier_model.specs.Places.{Places, marked_bytes, load_of, Replays, Begins, Goes}
use Rattle.tier_model.specs.Tiers.{sizes_of}
use Rattle.tier_laws.specs.LoadLaws.{marked_none}
use Rattle.tier_laws.specs.OpeningLaws.{load_of_held}
use Rattle.run_model.specs.Worlds.{World, patch_count, HoldsBase}
use Rattle.serve_model.specs.Journals.{pins_of, ReplaysAt}

-- entries lead to places whose load is at most the budget
pub record IsWithin (budget width : ℕ) (sizes : List ℕ) (pinned : List Bool) (entries : List Turn) : Type 0 where
  pub places : Places
  pub replays : Replays budget width sizes pinned entries places
  pub fits : load_of sizes places ≤ budget

module _ (budget width : ℕ) (sizes : List ℕ) (pinned : List Bool) (low : marked_bytes sizes pinned ≤ budget) where
  none_within : IsWithin budget width sizes pinned []
  none_within = record {
    places = record { held = pinned; coming = [] };
    replays = Begins;
    fits = subst (λ (n : ℕ). n ≤ budget) (sym (load_of_held sizes pinned)) low;
  }

  replayed_within : (journal : List Turn) (places : Places) → Replays budget width sizes pinned journal places → (n : ℕ)
      → IsWithin budget width sizes pinned (take n journal)
  replayed_within _ _ Begins n =
      let none : take n [] ≡ [] = take_all n [] (omega arith) in
      subst (IsWithin budget width sizes pinned) (sym none) none_within
  replayed_within _ _ (Goes {journal = journal} {a = a} entry before needs fits) n =
      elim (cases_lt (length journal) n) [
        | inl all ↦
            let long = length-append journal (entry ∷ []) in
            let whole : take n (journal ++ entry ∷ []) ≡ journal
            ++ entry ∷ [] = take_all n (journal ++ entry ∷ []) (omega (arith, long, all)) in
            subst (IsWithin budget width sizes pinned) (sym whole)
            (record { places = _; replays = Goes entry before needs fits; fits = fits })
        | inr some ↦ subst (IsWithin budget width sizes pinned) (sym (take-append-le n journal (entry ∷ []) some))
            (replayed_within journal a before n)
      ]

-- the pinned patches of each tier fit its budget
pins_fit : (w : World) → HoldsBase w → (k budget : ℕ) → slice_get w.budgets k ≡ Some budget
    → marked_bytes (sizes_of w.mesh.index) (pins_of w k) ≤ budget
pins_fit w holds zero budget at = holds.fits budget at
pins_fit w holds (suc k) budget at = let none = marked_none (sizes_of w.mesh.index) (patch_count w) in omega
    (arith, none)

-- so does each tier at every entry of its journal
pub journal_within : (w : World) (k : ℕ) (journal : List Turn) → HoldsBase w → (is : ReplaysAt w k journal) → (n : ℕ)
    → IsWithin is.budget w.width (sizes_of w.mesh.index) (pins_of w k) (take n journal)
journal_within w k journal holds is n = replayed_within is.budget w.width (sizes_of w.mesh.index) (pins_of w k)
    (pins_fit w holds k is.budget is.of_tier) journal is.places is.replays n
