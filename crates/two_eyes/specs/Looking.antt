-- Sessions that look: they are open, have a view, and have shown few frames.
use Rattle.std.specs.Prelude.{◌≡◌, ℕ, ◌^◌, ◌<◌, List, Option, Some}
use Rattle.round_model.specs.Views.{ViewSeen}
use Rattle.session_model.specs.Sessions.{SessionState}
use Rattle.session_model.specs.Told.{SessionTold}
use Rattle.session_seats.specs.Seats.{seat_told}

-- session i may show its next frame
pub record Looks (sessions : List (Option SessionState)) (i : ℕ) : Type 0 where
  pub told : SessionTold
  pub is : seat_told sessions i ≡ Some told
  pub view : ViewSeen
  pub viewed : told.view ≡ Some view
  pub few : told.frames < 2 ^ 62
