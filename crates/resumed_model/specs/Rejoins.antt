-- Sessions that join a run again, each with its last view and its count of frames, and the lines behind them.
use Rattle.std.specs.Prelude.{◌≡◌, ◌≢◌, ℕ, List, [], ◌∷◌, map, Some}
use Rattle.std.specs.List.{AllByRecursion}
use Rattle.std.specs.Option.{option_map}
use Rattle.round_model.specs.Views.{ViewSeen}
use Rattle.script_model.specs.declared.orders.Order.{Order}
use Rattle.script_model.specs.declared.orders.Order.TheVariants as orders
use Rattle.session_model.specs.Sessions.{SessionState, opened, with_view, counted_from}
use Rattle.run_model.specs.Worlds.{World, patch_count}
use Rattle.run_model.specs.States.{State, posted_by, seated}
use Rattle.run_model.specs.Lines.{DidOpen, DidView, Does}

-- a session by its number, the frames that it printed, and its last view
pub record Viewer : Type 0 where
  pub session : ℕ
  pub frames : ℕ
  pub view : ViewSeen

-- the session counts its frames on from this number, if it is open
unfoldable pub recounted : State → ℕ → ℕ → State
recounted a i frames = seated a i (option_map (counted_from frames) (a.sessions i))

-- each of them opens, its view is set and posted, and it counts its frames on, one after another
pub data Rejoin (w : World) : State → List Viewer → State → Type 0 where
  NoneRejoins : {a : State} → Rejoin w a [] a
  OneRejoins : {a b c d : State} {vs : List Viewer} (v : Viewer)
      → Does w a (orders.Open v.session) (DidOpen v.session) b
      → Does w b (orders.View v.session v.view) (DidView v.session) c → Rejoin w (recounted c v.session v.frames) vs d
      → Rejoin w a (v ∷ vs) d

-- one session joins so
abbrev pub RejoinsAs : ℕ → ℕ → ViewSeen → World → State → State → Type 0
RejoinsAs session frames view w a b = Rejoin w a (record { session = session; frames = frames; view = view } ∷ []) b

-- all tiers settle, and each of them prints a frame
abbrev pub settled_orders : List Viewer → List Order
settled_orders vs = orders.Settle ∷ map (λ (v : Viewer). orders.Frame v.session) vs

-- ---- sessions that joined

-- no two are of one session
abbrev pub AreApart : List Viewer → Type 0
AreApart [] = Unit {0}
AreApart (v ∷ vs) = AllByRecursion (λ (u : Viewer). u.session ≢ v.session) vs × AreApart vs

-- the session with this view and this count, which had no round and uses nothing
abbrev pub joined_session : World → Viewer → SessionState
joined_session w v = counted_from v.frames (with_view v.view (opened (patch_count w)))

-- it is open so, and its view is posted
pub record Stands (w : World) (a : State) (v : Viewer) : Type 0 where
  pub at : a.sessions v.session ≡ Some (joined_session w v)
  pub posted : a.posted v.session ≡ Some (posted_by w v.view)
