-- The turn of a tier that takes one patch at a time.
use Rattle.std.specs.Prelude.{ℕ, List, [], ◌∷◌, Option, Some, None, if◌then◌else◌}
use Rattle.tier_model.specs.declared.turns.Turn.{Turn}
use Rattle.tier_model.specs.declared.turns.Turn.TheVariants.{Reserve, Commit}
use Rattle.tier_model.specs.declared.turns.Coming.{Coming}
use Rattle.tier_model.specs.Places.{first_bare}
use Rattle.tier_model.specs.Tiers.{TierState}
use Rattle.tier_model.specs.Changes.{reserved, committed}
use Rattle.tier_model.specs.Choices.{Told, candidate}
use Rattle.tier_model.specs.Turns.{Outcome, fitting, leaving, fetching, leave_or_idle}

-- the first patch that comes with its body
unfoldable pub first_full : List Coming → Option ℕ
first_full [] = None
first_full (c ∷ cs) = if c.has_body then Some c.patch else first_full cs

-- third, the candidate comes, if there is room for it; else a patch leaves, or there is nothing to do
unfoldable pub single_reserve_or : Told → TierState → Outcome → Option ℕ → Turn × TierState
single_reserve_or told s o (Some c) = (Reserve c, reserved s c)
single_reserve_or told s o None = leave_or_idle told s o (leaving told s)

-- second, the patch that comes without a body is fetched
unfoldable pub single_fetch_or : Told → TierState → Outcome → Option ℕ → Turn × TierState
single_fetch_or told s o (Some p) = fetching (told.has p) s p o.fetched
single_fetch_or told s o None = single_reserve_or told s o (fitting s (candidate told s))

-- first, the patch that comes with its body is held
unfoldable pub single_commit_or : Told → TierState → Outcome → Option ℕ → Turn × TierState
single_commit_or told s o (Some p) = (Commit p, committed s p)
single_commit_or told s o None = single_fetch_or told s o (first_bare s.coming)

-- the turn, by the first rule that applies: commit, fetch, reserve, evict or keep, idle
unfoldable pub single_turn_of : Told → TierState → Outcome → Turn × TierState
single_turn_of told s o = single_commit_or told s o (first_full s.coming)
