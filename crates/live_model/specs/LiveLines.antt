-- What the lines of a driver do.
use Rattle.std.specs.Prelude.{◌≡◌, ℕ, List, [], ◌∷◌, map, Some, None, Ok, Err}
use Rattle.file_model.specs.Lists.{SeenBody}
use Rattle.text_model.specs.declared.faults.ScriptFault.{ScriptFault}
use Rattle.text_model.specs.FrameText.{Frame}
use Rattle.tier_model.specs.declared.turns.Turn.{Turn}
use Rattle.script_model.specs.declared.orders.Order.{Order}
use Rattle.script_model.specs.declared.orders.Order.TheVariants as orders
use Rattle.run_model.specs.Worlds.{World}
use Rattle.run_model.specs.States.{State}
use Rattle.run_model.specs.Safe.{IsHeldAtTop}
use Rattle.run_model.specs.Lines.{Did, DidFrame, DidTurns, Does}
use Rattle.live_model.specs.declared.orders.LiveOrder.{LiveOrder}
use Rattle.live_model.specs.declared.orders.LiveOrder.TheVariants as live
use Rattle.live_model.specs.Places.{place_of}
use Rattle.live_model.specs.LiveOrders.{live_in}
use Rattle.live_model.specs.LiveTurns.{TurnsRounds}

-- what a line did
pub data LiveDid : Type 0 where
  DidPlay : Did → LiveDid
  DidShow : Frame → LiveDid
  DidGive : ℕ → SeenBody → LiveDid
  DidRounds : List (ℕ × Turn) → LiveDid
  DidNothing : LiveDid
  DidRefuse : ScriptFault → LiveDid

-- an order does this in a state, and leads to another
pub data OrderDoes (w : World) (a : State) : LiveOrder → LiveDid → State → Type 0 where
  -- what a script's line does
  Plays : {order : Order} {did : Did} {b : State} → Does w a order did b
      → OrderDoes w a (live.Play order) (DidPlay did) b
  -- what a script's line of a frame does
  Shows : {frame : Frame} {b : State} (i : ℕ) → Does w a (orders.Frame i) (DidFrame frame) b
      → OrderDoes w a (live.Show i) (DidShow frame) b
  -- the body that the top tier holds, and nothing changes
  Gives : (p : ℕ) (held : IsHeldAtTop w a p) → OrderDoes w a (live.Body p) (DidGive p held.body) a
  -- the tiers turn
  TurnsAll : {log : List (ℕ × Turn)} {b : State} (n : ℕ) → TurnsRounds w n a log b
      → OrderDoes w a (live.Turns n) (DidRounds log) b

-- a line of these bytes does this in a state, and leads to another
pub data LiveDoes (w : World) (a : State) : List ℕ → LiveDid → State → Type 0 where
  -- it has no words
  Skips : {bytes : List ℕ} → live_in (place_of w a) bytes ≡ Ok None → LiveDoes w a bytes DidNothing a
  -- it orders nothing that may stand here, and nothing changes
  Refuses : {bytes : List ℕ} (fault : ScriptFault) → live_in (place_of w a) bytes ≡ Err fault
      → LiveDoes w a bytes (DidRefuse fault) a
  -- it does what it orders
  Obeys : {bytes : List ℕ} {did : LiveDid} {b : State} (order : LiveOrder)
      → live_in (place_of w a) bytes ≡ Ok (Some order) → OrderDoes w a order did b → LiveDoes w a bytes did b

-- lines do this, one after another
pub data LiveRuns (w : World) : State → List (List ℕ) → List LiveDid → State → Type 0 where
  NoLine : {a : State} → LiveRuns w a [] [] a
  OneLine : {a b c : State} {line : List ℕ} {lines : List (List ℕ)} {did : LiveDid} {dids : List LiveDid}
      → LiveDoes w a line did b → LiveRuns w b lines dids c → LiveRuns w a (line ∷ lines) (did ∷ dids) c

-- each turn as a line of its own
abbrev pub turn_dids : List (ℕ × Turn) → List Did
turn_dids log = map (λ (turn : ℕ × Turn). DidTurns (turn ∷ [])) log

-- what lines of a script would do in the place of the line
abbrev pub plain_dids : LiveDid → List Did
plain_dids (DidPlay did) = did ∷ []
plain_dids (DidShow frame) = DidFrame frame ∷ []
plain_dids (DidGive p body) = []
plain_dids (DidRounds log) = turn_dids log
plain_dids DidNothing = []
plain_dids (DidRefuse fault) = []
