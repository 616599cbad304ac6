-- Each entry of a journal that can be replayed is of a patch that is there.
use Rattle.std.proofs.Common.{◌≡◌, ℕ, ◌<◌, Bool, true, false, List, [], ◌∷◌, ◌++◌, length, sym, subst, ◌∙◌, inl, inr}
use Rattle.std.specs.List.{AllByRecursion}
use Rattle.std.proofs.lemmas.Bool.{cases_eq}
use Rattle.std.proofs.lemmas.List.{length-set}
use Rattle.std.proofs.lemmas.Option.{slice_get_within}
use Rattle.tier_model.specs.declared.turns.Turn.{Turn}
use Rattle.tier_model.specs.declared.turns.Turn.TheVariants.{Reserve, Evict, Kept, Got, Lost, Fault, Changed, Commit, Idle}
use Rattle.tier_model.specs.declared.turns.Coming.{Coming}
use Rattle.tier_model.specs.Places.{Places, bare, is_coming, Needs, after, Replays, Begins, Goes}
use Rattle.tier_laws.specs.ComingLaws.{nothing_comes, reserved_others, arrived_comes, gone_came, first_comes, bare_comes}
use Rattle.serve_model.specs.FittingFaults.{IsFitting}
use Rattle.audit_spelling.specs.Spellings.{IsEntry}

-- so many patches may be held, and each that comes is one of them
record AreWithin (patches : ℕ) (a : Places) : Type 0 where
  held : length a.held ≡ patches
  coming : (p : ℕ) → is_coming a.coming p ≡ true → p < patches

entry_within : (patches width : ℕ) (pinned : List Bool) (a : Places) (entry : Turn) → AreWithin patches a
    → Needs width pinned a entry → IsFitting entry → IsEntry patches entry
entry_within patches width pinned a (Reserve p) within needs fits = subst (λ (n : ℕ). p < n) within.held
    (slice_get_within a.held p false needs.1)
entry_within patches width pinned a (Evict p) within needs fits = subst (λ (n : ℕ). p < n) within.held
    (slice_get_within a.held p true needs.1)
entry_within patches width pinned a (Kept p uses) within needs fits = needs
entry_within patches width pinned a (Got p) within needs fits = within.coming p (bare_comes a.coming p needs)
entry_within patches width pinned a (Lost p) within needs fits = within.coming p (bare_comes a.coming p needs)
entry_within patches width pinned a (Fault p) within needs fits = within.coming p (bare_comes a.coming p needs)
entry_within patches width pinned a (Changed p fault) within needs fits =
    (within.coming p (bare_comes a.coming p needs), fits)
entry_within patches width pinned a (Commit p) within needs fits = within.coming p (first_comes a.coming p needs.0)
entry_within patches width pinned a Idle within needs fits = needs

reserved_within : (patches p : ℕ) (cs : List Coming) → p < patches → ((q : ℕ) → is_coming cs q ≡ true → q < patches)
    → (q : ℕ) → is_coming (cs ++ (bare p ∷ [])) q ≡ true → q < patches
reserved_within patches p cs here coming q comes =
    elim (cases_eq q p) [
      | inl same ↦ subst (λ (n : ℕ). n < patches) (sym same) here
      | inr other ↦ coming q (sym (reserved_others cs p q other) ∙ comes)
    ]

after_within : (patches : ℕ) (a : Places) (entry : Turn) → AreWithin patches a → IsEntry patches entry
    → AreWithin patches (after a entry)
unfolding after
after_within patches a (Reserve p) within is = record
    { held = within.held; coming = reserved_within patches p a.coming is within.coming }
after_within patches a (Evict p) within is = record
    { held = length-set a.held p false ∙ within.held; coming = within.coming }
after_within patches a (Kept p uses) within is = absurd is
after_within patches a (Got p) within is = record
    { held = within.held; coming = λ q comes. within.coming q (sym (arrived_comes p a.coming q) ∙ comes) }
after_within patches a (Lost p) within is = record
    { held = within.held; coming = λ q comes. within.coming q (gone_came p a.coming q comes) }
after_within patches a (Fault p) within is = record
    { held = within.held; coming = λ q comes. within.coming q (gone_came p a.coming q comes) }
after_within patches a (Changed p fault) within is = record
    { held = within.held; coming = λ q comes. within.coming q (gone_came p a.coming q comes) }
after_within patches a (Commit p) within is = record {
  held = length-set a.held p true ∙ within.held;
  coming = λ q comes. within.coming q
      (gone_came p a.coming q comes);
}
after_within patches a Idle within is = absurd is

each_front : (P : Turn → Type 0) (front : List Turn) (last : Turn) → AllByRecursion P (front ++ (last ∷ []))
    → AllByRecursion P front
each_front P [] last all = tt
each_front P (t ∷ ts) last all = (all.0, each_front P ts last all.1)

each_last : (P : Turn → Type 0) (front : List Turn) (last : Turn) → AllByRecursion P (front ++ (last ∷ [])) → P last
each_last P [] last all = all.0
each_last P (t ∷ ts) last all = each_last P ts last all.1

each_one_more : (P : Turn → Type 0) (front : List Turn) (last : Turn) → AllByRecursion P front → P last
    → AllByRecursion P (front ++ (last ∷ []))
each_one_more P [] last all here = (here, tt)
each_one_more P (t ∷ ts) last all here = (all.0, each_one_more P ts last all.1 here)

-- what was replayed so far
record HasEntries (patches : ℕ) (journal : List Turn) (a : Places) : Type 0 where
  entries : AllByRecursion (IsEntry patches) journal
  within : AreWithin patches a

replayed_within : (patches budget width : ℕ) (sizes : List ℕ) (pinned : List Bool) (journal : List Turn) (a : Places)
    → length pinned ≡ patches → Replays budget width sizes pinned journal a → AllByRecursion IsFitting journal
    → HasEntries patches journal a
replayed_within patches budget width sizes pinned _ _ many Begins fits = record
    { entries = tt; within = record { held = many; coming = λ p comes. absurd (nothing_comes p comes) } }
replayed_within patches budget width sizes pinned _ _ many (Goes {journal} {a} entry before needs few) fits =
    let so_far = replayed_within patches budget width sizes pinned journal a many before
    (each_front IsFitting journal entry fits) in
    let is = entry_within patches width pinned a entry so_far.within needs (each_last IsFitting journal entry fits) in
    record {
      entries = each_one_more (IsEntry patches) journal entry so_far.entries is;
      within = after_within patches a entry so_far.within is;
    }

-- each entry of a journal that can be replayed, and whose faults fit, is an entry over these patches
pub entries_within : (patches budget width : ℕ) (sizes : List ℕ) (pinned : List Bool) (journal : List Turn) (a : Places)
    → length pinned ≡ patches → Replays budget width sizes pinned journal a → AllByRecursion IsFitting journal
    → AllByRecursion (IsEntry patches) journal
entries_within patches budget width sizes pinned journal a many replays fits =
    (replayed_within patches budget width sizes pinned journal a many replays fits).entries
