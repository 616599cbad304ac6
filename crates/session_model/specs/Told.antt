-- What a script tells of a session.
use Rattle.std.specs.Prelude.{ℕ, ◌+◌, Option, Some, None}
use Rattle.round_model.specs.Views.{ViewSeen}
use Rattle.session_model.specs.Sessions.{SessionState}

-- of an open session: its view, and how many frames it printed
pub record SessionTold : Type 0 where
  pub view : Option ViewSeen
  pub frames : ℕ

abbrev pub session_told : SessionState → SessionTold
session_told s = record { view = s.view; frames = s.frames }

abbrev pub just_opened : SessionTold
just_opened = record { view = None; frames = 0 }

abbrev pub told_view : SessionTold → ViewSeen → SessionTold
told_view told view = record told { view = Some view }

abbrev pub told_from : SessionTold → ℕ → SessionTold
told_from told frames = record told { frames = frames }

abbrev pub one_frame_more : SessionTold → SessionTold
one_frame_more told = record told { frames = told.frames + 1 }
