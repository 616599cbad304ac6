-- What callers see of a tier, and what holds of it.
use Rattle.std.specs.Prelude.{◌≡◌, ℕ, ◌<◌, ◌≤◌, Bool, List, is_some, vec_capacity}
use Rattle.std.specs.List.{count_by}
use Rattle.tier_model.specs.declared.turns.Turn.{Turn}
use Rattle.tier_model.specs.Places.{Needs}
use Rattle.tier_model.specs.Tiers.{TierState, count, is_held, places, load, pinned_bytes, IsTier}
use Rattle.tier_budget.specs.Heads.{bodies_in}
use Rattle.tier_budget.specs.Heaps.{IsLeaving, IsMissing}
use Rattle.tier_budget.specs.PatchSets.{HasAll}
use Rattle.tier_budget.specs.declared.tiers.Tier.TheInside.{Inside}

-- a tier, for how many more entries its journal has room, and whether it keeps its journal
pub record TierSeen : Type 0 where
  pub state : TierState
  pub spare : ℕ
  pub records : Bool

-- what the entry needs is there
abbrev pub Allows : TierState → Turn → Type 0
Allows s entry = Needs s.width s.pinned (places s) entry

-- how many patches the tier holds
abbrev pub held_count : TierState → ℕ
held_count s = count_by (λ o. is_some o) s.held

abbrev pub state_of : Inside → TierState
state_of t = record {
  budget = t.budget;
  width = t.width;
  version = t.version;
  sizes = t.sizes.items;
  wishes = t.wishes.items;
  base = t.base.items;
  pinned = t.pinned.items;
  passed = t.passed;
  aside = t.aside;
  held = bodies_in t.held.items;
  came = bodies_in t.came.items;
  coming = t.coming.items;
  journal = t.journal.entries;
}

abbrev pub tier_view : Inside → TierSeen
tier_view t = record { state = state_of t; spare = t.journal.spare; records = t.journal.records }

-- a tier, with its sums, and room for all that may come
pub record IsSoundTier (s : TierState) (bytes pinned held capacity : ℕ) : Type 0 where
  pub tier : IsTier s
  pub bytes_are : bytes ≡ load s
  pub pinned_are : pinned ≡ pinned_bytes s
  pub held_are : held ≡ held_count s
  pub room : 0 < count s → s.width ≤ capacity
  pub few : count s ≤ 65536

-- the set lacks no patch that is held
abbrev pub Holds : TierState → List ℕ → Type 0
Holds s words = HasAll (count s) (is_held s) words

-- a sound tier, with the heaps of the patches that may leave and of those that are missing, and the set of those
-- that are held
pub record IsTierInside (t : Inside) : Type 0 where
  pub sound : IsSoundTier (state_of t) t.load t.pinned_bytes t.held_count (vec_capacity t.coming)
  pub leaving : IsLeaving (state_of t) t.leaving
  pub missing : IsMissing (state_of t) t.missing
  pub holds : Holds (state_of t) t.holds
