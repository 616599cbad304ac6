-- What the lines of a run keep beside its safety: what is posted, and the wishes that the tiers have taken.
use Rattle.std.specs.Prelude.{◌≡◌, ℕ, ◌≤◌, Option, Some, None, slice_get}
use Rattle.std.specs.Option.{option_map}
use Rattle.round_model.specs.Views.{ViewSeen}
use Rattle.session_model.specs.Sessions.{SessionState}
use Rattle.tier_model.specs.Tiers.{TierState}
use Rattle.tier_model.specs.Keeping.{KeepsWishes}
use Rattle.run_model.specs.Worlds.{World}
use Rattle.run_model.specs.States.{State, board_of, posted_by}

-- no tier has taken wishes of a later version than the board's, and one that has taken the board's keeps its wishes
pub record TakeWishes (w : World) (a : State) : Type 0 where
  pub versions : (k : ℕ) (t : TierState) → slice_get a.chain.tiers k ≡ Some t → t.version ≤ a.version
  pub wishes : (k : ℕ) (t : TierState) → slice_get a.chain.tiers k ≡ Some t → KeepsWishes (board_of w a) t

-- the view of a session that is open
abbrev pub seat_view : Option SessionState → Option ViewSeen
seat_view None = None
seat_view (Some s) = s.view

-- what is posted are the views of the open sessions
pub record ArePosted (w : World) (a : State) : Type 0 where
  pub each : (i : ℕ) → a.posted i ≡ option_map (posted_by w) (seat_view (a.sessions i))

-- both
pub record IsKept (w : World) (a : State) : Type 0 where
  pub wishes : TakeWishes w a
  pub posted : ArePosted w a
