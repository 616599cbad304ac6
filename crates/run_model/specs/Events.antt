-- The events of a run.
use Rattle.std.specs.Prelude.{◌≡◌, ℕ, false, Some, None}
use Rattle.round_model.specs.Views.{ViewSeen}
use Rattle.session_model.specs.Sessions.{SessionState, uses, opened, with_view, printed_once}
use Rattle.session_model.specs.Steps.{step_by, free_step}
use Rattle.session_model.specs.DoneRounds.{HasDone}
use Rattle.tier_model.specs.declared.turns.Turn.{Turn}
use Rattle.tier_model.specs.Ranks.{Posted}
use Rattle.token_words.specs.Sessions.{IsSession}
use Rattle.run_model.specs.Worlds.{World, patch_count}
use Rattle.run_model.specs.States.{State, posted_by, seated, posting}
use Rattle.run_model.specs.Turning.{TurnsTo}

-- one event leads from a state to a state
pub data Happens (w : World) : State → State → Type 0 where
  -- a session that has a view makes a step, in which a try is answered by its patch's epoch
  Steps : {a : State} (i : ℕ) (s : SessionState) (view : ViewSeen) → a.sessions i ≡ Some s → s.view ≡ Some view → Happens w a (seated a i (Some (step_by w.mesh a.chain.epochs s).state))
  -- a tier makes a turn
  Turns : {a b : State} (k : ℕ) (answer : Turn) → TurnsTo w k a answer b → Happens w a b
  -- a session makes a step towards no use
  Frees : {a : State} (i : ℕ) (s : SessionState) → a.sessions i ≡ Some s → Happens w a (seated a i (Some (free_step s).state))
  -- a session that isn't open opens
  Opens : {a : State} (i : ℕ) → IsSession i → a.sessions i ≡ None → Happens w a (seated a i (Some (opened (patch_count w))))
  -- an open session's view is set and posted
  Views : {a : State} (i : ℕ) (s : SessionState) (view : ViewSeen) → a.sessions i ≡ Some s → Happens w a (posting (seated a i (Some (with_view view s))) i (Some (posted_by w view)))
  -- a view is taken off
  TakesOff : {a : State} (i : ℕ) (view : Posted) → a.posted i ≡ Some view → Happens w a (posting a i None)
  -- a round that is done is marked as printed
  Prints : {a : State} (i : ℕ) (s : SessionState) → a.sessions i ≡ Some s → HasDone s → Happens w a (seated a i (Some (printed_once s)))
  -- a session that has no use and no posted view ends
  Ends : {a : State} (i : ℕ) (s : SessionState) → a.sessions i ≡ Some s → ((p : ℕ) → uses s p ≡ false) → a.posted i ≡ None → Happens w a (seated a i None)

-- events lead from a state to a state, one after another
pub data Reaches (w : World) : State → State → Type 0 where
  Stays : {a : State} → Reaches w a a
  Then : {a b c : State} → Happens w a b → Reaches w b c → Reaches w a c
