-- The tiers before this one have other versions.
use Rattle.std.proofs.Common.{◌≡◌, ◌≢◌, ℕ, ◌<◌, Some}
use Rattle.std.specs.Prelude.{slice_get}
use Rattle.tier_model.specs.Tiers.{TierState}
use Rattle.chain_tests.proofs.tests.scenes.expect_new_wishes.Given as goal

abbrev pub invariant-loop-tier : goal.invariant-loop-tier
invariant-loop-tier g l = (k : ℕ) (s : TierState) → k < l.tier → slice_get l.chain.tiers k ≡ Some s → s.version ≢ l.board.version
