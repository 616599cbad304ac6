-- Where an order stops that was refused memory: at a beginning of its own steps.
use Rattle.std.specs.Prelude.{◌≡◌, ℕ, true, false, List, length, Some, None, slice_get}
use Rattle.script_model.specs.declared.orders.Order.{Order}
use Rattle.script_model.specs.declared.orders.Order.TheVariants as orders
use Rattle.session_model.specs.Sessions.{SessionState, uses, settled}
use Rattle.session_model.specs.DoneRounds.{HasDone}
use Rattle.session_model.specs.Finishes.{Steps, Finishes}
use Rattle.tier_model.specs.declared.turns.Turn.{Turn}
use Rattle.tier_model.specs.Tiers.{TierState}
use Rattle.cache_chain.specs.SettleOrder.{ComesNext}
use Rattle.run_model.specs.Worlds.{World}
use Rattle.run_model.specs.States.{State, seated}
use Rattle.run_model.specs.Events.{Reaches}
use Rattle.run_model.specs.Events.{Stays as NoEvent}
use Rattle.run_model.specs.Lines.{Did, Does}
use Rattle.run_laws.specs.LineLaws.{does_reaches}
use Rattle.view_machine.specs.SettleStates.{MakesAll, makes_reach}
use Rattle.view_machine.specs.Stops.{began, StopsAt, AtEvents, AtTurn}

-- there was no memory for the round that session i was to begin in this state: a printed round has ended, the session uses
-- nothing, and all else is as it was
pub record StopsBeforeRound (w : World) (a : State) (i : ℕ) (last : SessionState) (b : State) : Type 0 where
  pub reaches : Reaches w a b
  pub no_round : (settled last).round ≡ None
  pub unused : (p : ℕ) → uses (settled last) p ≡ false
  pub is : b ≡ seated a i (Some (settled last))

-- session i took the steps of its frame's line, and its round is done: all else is as it was
pub record HasFinished (w : World) (a : State) (i : ℕ) (b : State) : Type 0 where
  pub reaches : Reaches w a b
  pub session : SessionState
  pub at : a.sessions i ≡ Some session
  pub tries : List (ℕ × ℕ)
  pub last : SessionState
  pub finishes : Finishes w.mesh true a.chain.epochs session tries last
  pub done : HasDone last
  pub is : b ≡ seated a i (Some last)

-- what the order did until it stopped
pub data StopsIn (w : World) (a : State) : Order → State → Type 0 where
  -- nothing yet
  AtStart : {order : Order} → StopsIn w a order a
  -- all, and only its text found no memory
  BeforeText : {order : Order} {b : State} (did : Did) → Does w a order did b → StopsIn w a order b
  -- the session's step was to begin a round
  InStep : {b : State} (i : ℕ) (s : SessionState) → a.sessions i ≡ Some s → StopsBeforeRound w a i s b → StopsIn w a (orders.Step i) b
  -- the session took steps towards its frame, and the next one was to begin a round
  InFrame : {b : State} (i : ℕ) (s : SessionState) (tries : List (ℕ × ℕ)) (last : SessionState) → a.sessions i ≡ Some s
      → Steps w.mesh true a.chain.epochs s tries last → StopsBeforeRound w a i last b → StopsIn w a (orders.Frame i) b
  -- the session finished its round, and the frame isn't printed
  Unprinted : {b : State} (i : ℕ) → HasFinished w a i b → StopsIn w a (orders.Frame i) b
  -- the tier began its turn
  InTurn : (k : ℕ) (t : TierState) → slice_get a.chain.tiers k ≡ Some t → StopsIn w a (orders.Turn k) (began w a k t)
  -- the first turns of the settling, behind which the tier that comes next has at most begun its turn
  InSettling : {b : State} (made : List (ℕ × Turn)) (k : ℕ) → ComesNext (length w.budgets) k made → MakesAll w a made b → StopsIn w a orders.Settle b
  InSettlingTurn : {b : State} (made : List (ℕ × Turn)) (k : ℕ) (t : TierState) → ComesNext (length w.budgets) k made → MakesAll w a made b
      → slice_get b.chain.tiers k ≡ Some t → StopsIn w a orders.Settle (began w b k t)

-- so events lead there, but that a tier may have begun a turn
pub own_stops : (w : World) (a : State) (order : Order) (b : State) → StopsIn w a order b → StopsAt w a b
own_stops w a order _ AtStart = AtEvents NoEvent
own_stops w a order b (BeforeText did does) = AtEvents (does_reaches w a b order did does)
own_stops w a _ b (InStep i s at stops) = AtEvents stops.reaches
own_stops w a _ b (InFrame i s tries last at steps stops) = AtEvents stops.reaches
own_stops w a _ b (Unprinted i finished) = AtEvents finished.reaches
own_stops w a _ _ (InTurn k t at) = AtTurn k t NoEvent at
own_stops w a _ b (InSettling made k next makes) = AtEvents (makes_reach w a b made makes)
own_stops w a _ _ (InSettlingTurn {b = b} made k t next makes at) = AtTurn k t (makes_reach w a b made makes) at
