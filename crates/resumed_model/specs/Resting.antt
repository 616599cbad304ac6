-- The state from which a run goes on: tiers at rest, and nobody there.
use Rattle.std.specs.Prelude.{◌≡◌, ℕ, suc, true, false, List, length, Some, None, slice_get}
use Rattle.file_model.specs.Tries.{is_odd}
use Rattle.tier_model.specs.Places.{is_marked}
use Rattle.tier_model.specs.Tiers.{TierState}
use Rattle.tier_model.specs.Keeping.{KeepsWishes}
use Rattle.tier_laws.specs.ChainLaws.{IsTopTied}
use Rattle.run_model.specs.Worlds.{World, is_base}
use Rattle.run_model.specs.States.{State, board_of}
use Rattle.run_model.specs.Safe.{IsSafe}
use Rattle.run_model.specs.Kept.{IsKept}
use Rattle.run_laws.specs.Sound.{IsTierOf}

-- these tiers and epochs, where no session is open, no patch is used and no view is posted
unfoldable pub resting : List TierState → (ℕ → ℕ) → State
resting tiers epochs = record {
  chain = record { tiers = tiers; epochs = epochs };
  users = λ i p. false;
  sessions = λ i. None;
  posted = λ i. None;
  version = 0;
}

-- the tier passed nothing over and put nothing aside
pub record IsAtRest (t : TierState) : Type 0 where
  pub none_passed : (p : ℕ) → is_marked t.passed p ≡ false
  pub none_aside : (p : ℕ) → is_marked t.aside p ≡ false

-- the tiers are those of the world, at rest, and have taken the wishes of a board without views; the top is tied to the
-- epochs, which are odd at the base patches, and has the base patches pinned, and no other tier has pins
pub record AreResting (w : World) (tiers : List TierState) (epochs : ℕ → ℕ) : Type 0 where
  pub many : length tiers ≡ length w.budgets
  pub each : (k : ℕ) (t : TierState) → slice_get tiers k ≡ Some t → IsTierOf w k t
  pub at_rest : (k : ℕ) (t : TierState) → slice_get tiers k ≡ Some t → IsAtRest t
  pub versions : (k : ℕ) (t : TierState) → slice_get tiers k ≡ Some t → t.version ≡ 0
  pub wishes : (k : ℕ) (t : TierState) → slice_get tiers k ≡ Some t → KeepsWishes (board_of w (resting tiers epochs)) t
  pub tied : IsTopTied (record { tiers = tiers; epochs = epochs }) (is_base w)
  pub no_pins : (k : ℕ) (t : TierState) (p : ℕ) → slice_get tiers (suc k) ≡ Some t → is_marked t.pinned p ≡ false
  pub base_odd : (p : ℕ) → is_base w p ≡ true → is_odd (epochs p) ≡ true

-- a run goes on from here: the state is safe, what is posted are the views of the open sessions, and a tier that has
-- taken
-- the board's wishes keeps them
pub record GoesOn (w : World) (a : State) : Type 0 where
  pub safe : IsSafe w a
  pub kept : IsKept w a
