-- What driving promises.
use Rattle.std.proofs.Common.{ℕ, zero, suc, List, [], ◌∷◌, ◌++◌, length, sym, subst}
use Rattle.std.specs.List.{AllByRecursion, flat_map}
use Rattle.std.proofs.lemmas.List.{map-append}
use Rattle.file_model.specs.Lists.{BodyLists}
use Rattle.script_model.specs.declared.orders.Order.{Order}
use Rattle.script_model.specs.declared.orders.Order.TheVariants as orders
use Rattle.text_model.specs.FrameText.{Frame}
use Rattle.tier_model.specs.declared.turns.Turn.{Turn}
use Rattle.run_model.specs.Worlds.{World, IsWorld, HoldsBase, IsFileBody}
use Rattle.run_model.specs.States.{State}
use Rattle.run_model.specs.Events.{Reaches}
use Rattle.run_model.specs.Safe.{IsSafe}
use Rattle.run_model.specs.Lines.{Did, DidFrame, DidTurns, Does, DoesTurn, Runs}
use Rattle.run_model.specs.Lines.{NoLine as NoOrder, OneLine as OneOrder}
use Rattle.run_model.specs.RunTexts.{IsOpening}
use Rattle.run_laws.specs.LineLaws.{runs_reach}
use Rattle.run_laws.specs.SafeLaws.{events_keep_safe}
use Rattle.run_laws.specs.RunLaws.{opened_is_safe}
use Rattle.run_laws.specs.PrintedFrames.{IsTold, IfFrame, IsPrinted, prints_frame}
use Rattle.live_model.specs.declared.orders.LiveOrder.{LiveOrder}
use Rattle.live_model.specs.LiveTurns.{TurnsOnce, NoTier, TierTurns, TurnsRounds, NoRound, LastRound, MoreRounds}
use Rattle.live_model.specs.LiveLines.{LiveDid, DidPlay, DidShow, DidGive, DidRounds, DidNothing, DidRefuse, OrderDoes, Plays, Shows, Gives, TurnsAll, LiveDoes, Skips, Refuses, Obeys, LiveRuns, NoLine, OneLine, turn_dids, plain_dids}

-- ---- lines of a driver are lines of a script

-- lines of a script do this
pub record IsRun (w : World) (a : State) (dids : List Did) (b : State) : Type 0 where
  pub orders : List Order
  pub runs : Runs w a orders dids b

runs_both : (w : World) (a b c : State) (first later : List Order) (dids others : List Did) → Runs w a first dids b
    → Runs w b later others c → Runs w a (first ++ later) (dids ++ others) c
runs_both w a b c _ later _ others NoOrder then = then
runs_both w a b c _ later _ others (OneOrder {b = d} {orders = orders} {dids = dids} does rest) then = OneOrder does
    (runs_both w d b c orders later dids others rest then)

run_both : (w : World) (a b c : State) (dids others : List Did) → IsRun w a dids b → IsRun w b others c
    → IsRun w a (dids ++ others) c
run_both w a b c dids others first then = record {
  orders = first.orders ++ then.orders;
  runs = runs_both w a b c first.orders then.orders dids others first.runs then.runs;
}

no_run : (w : World) (a : State) → IsRun w a [] a
no_run w a = record { orders = []; runs = NoOrder }

one_run : (w : World) (a b : State) (order : Order) (did : Did) → Does w a order did b → IsRun w a (did ∷ []) b
one_run w a b order did does = record { orders = order ∷ []; runs = OneOrder does NoOrder }

pub once_run : (w : World) (n : ℕ) (a b : State) (log : List (ℕ × Turn)) → TurnsOnce w n a log b
    → IsRun w a (turn_dids log) b
once_run w zero a b _ NoTier = no_run w a
once_run w (suc n) a c _ (TierTurns {b = b} {log = log} answer turn rest) =
    run_both w a b c (DidTurns ((n, answer) ∷ []) ∷ []) (turn_dids log)
    (one_run w a b (orders.Turn n) (DidTurns ((n, answer) ∷ [])) (DoesTurn n answer turn))
    (once_run w n b c log rest)

pub rounds_run : (w : World) (n : ℕ) (a b : State) (log : List (ℕ × Turn)) → TurnsRounds w n a log b
    → IsRun w a (turn_dids log) b
rounds_run w zero a b _ NoRound = no_run w a
rounds_run w (suc n) a b log (LastRound round idle) = once_run w (length w.budgets) a b log round
rounds_run w (suc n) a c _ (MoreRounds {b = b} {log = log} {rest = rest} round busy later) =
    subst (λ (dids : List Did). IsRun w a dids c)
    (sym (map-append (λ (turn : ℕ × Turn). DidTurns (turn ∷ [])) log rest))
    (run_both w a b c (turn_dids log) (turn_dids rest) (once_run w (length w.budgets) a b log round)
    (rounds_run w n b c rest later))

order_run : (w : World) (a b : State) (order : LiveOrder) (did : LiveDid) → OrderDoes w a order did b
    → IsRun w a (plain_dids did) b
order_run w a b _ _ (Plays {order = order} {did = did} does) = one_run w a b order did does
order_run w a b _ _ (Shows {frame = frame} i does) = one_run w a b (orders.Frame i) (DidFrame frame) does
order_run w a b _ _ (Gives p held) = no_run w a
order_run w a b _ _ (TurnsAll {log = log} n rounds) = rounds_run w n a b log rounds

pub line_run : (w : World) (a b : State) (line : List ℕ) (did : LiveDid) → LiveDoes w a line did b
    → IsRun w a (plain_dids did) b
line_run w a b line _ (Skips is) = no_run w a
line_run w a b line _ (Refuses fault is) = no_run w a
line_run w a b line did (Obeys order is does) = order_run w a b order did does

pub lines_run : (w : World) (a b : State) (lines : List (List ℕ)) (dids : List LiveDid) → LiveRuns w a lines dids b
    → IsRun w a (flat_map plain_dids dids) b
lines_run w a b _ _ NoLine = no_run w a
lines_run w a c _ _ (OneLine {b = b} {line = line} {lines = lines} {did = did} {dids = dids} does rest) =
    run_both w a b c (plain_dids did) (flat_map plain_dids dids) (line_run w a b line did does)
    (lines_run w b c lines dids rest)

pub run_reaches : (w : World) (a b : State) (dids : List Did) → IsRun w a dids b → Reaches w a b
run_reaches w a b dids run = runs_reach w a b run.orders dids run.runs

pub lines_reach : (w : World) (a b : State) (lines : List (List ℕ)) (dids : List LiveDid) → LiveRuns w a lines dids b
    → Reaches w a b
lines_reach w a b lines dids runs = run_reaches w a b (flat_map plain_dids dids) (lines_run w a b lines dids runs)

-- ---- states stay safe

pub line_keeps_safe : (w : World) (a b : State) (line : List ℕ) (did : LiveDid) → IsWorld w → IsSafe w a
    → LiveDoes w a line did b → IsSafe w b
line_keeps_safe w a b line did world safe does = events_keep_safe w a b world safe
    (run_reaches w a b (plain_dids did) (line_run w a b line did does))

pub lines_are_safe : (w : World) (a b : State) (lines : List (List ℕ)) (dids : List LiveDid) → IsWorld w → HoldsBase w
    → IsOpening w a → LiveRuns w a lines dids b → IsSafe w b
lines_are_safe w a b lines dids world holds opens runs = events_keep_safe w a b world
    (opened_is_safe w a world holds opens) (lines_reach w a b lines dids runs)

-- ---- each frame is a whole round's

-- of the frame that a line printed or showed
abbrev pub IfShown : LiveDid → (Frame → Type 0) → Type 0
IfShown (DidPlay did) P = IfFrame did P
IfShown (DidShow frame) P = P frame
IfShown (DidGive p body) P = Unit {0}
IfShown (DidRounds log) P = Unit {0}
IfShown DidNothing P = Unit {0}
IfShown (DidRefuse fault) P = Unit {0}

order_shows : (w : World) (bodies : List BodyLists) (a b : State) (order : LiveOrder) (did : LiveDid) → IsTold w bodies
    → IsWorld w → IsSafe w a → OrderDoes w a order did b → IfShown did (IsPrinted w bodies a)
order_shows w bodies a b _ _ told world safe (Plays {order = order} {did = did} does) =
    prints_frame w bodies a b order did told world safe does
order_shows w bodies a b _ _ told world safe (Shows {frame = frame} i does) = prints_frame w bodies a b (orders.Frame i)
    (DidFrame frame) told world safe does
order_shows w bodies a b _ _ told world safe (Gives p held) = tt
order_shows w bodies a b _ _ told world safe (TurnsAll n rounds) = tt

pub line_shows : (w : World) (bodies : List BodyLists) (a b : State) (line : List ℕ) (did : LiveDid) → IsTold w bodies
    → IsWorld w → IsSafe w a → LiveDoes w a line did b → IfShown did (IsPrinted w bodies a)
line_shows w bodies a b line _ told world safe (Skips is) = tt
line_shows w bodies a b line _ told world safe (Refuses fault is) = tt
line_shows w bodies a b line did told world safe (Obeys order is does) =
    order_shows w bodies a b order did told world safe does

-- each frame of a run is so in the state in which its line begins
abbrev pub ShowsAlong : (w : World) (bodies : List BodyLists) (a b : State) (lines : List (List ℕ))
    (dids : List LiveDid) → LiveRuns w a lines dids b → Type 0
ShowsAlong w bodies a b _ _ NoLine = Unit {0}
ShowsAlong w bodies a c _ _ (OneLine {b = b} {lines = lines} {did = did} {dids = dids} does rest) = IfShown did
    (IsPrinted w bodies a) × ShowsAlong w bodies b c lines dids rest

pub shows_along : (w : World) (bodies : List BodyLists) (a b : State) (lines : List (List ℕ)) (dids : List LiveDid)
    → IsTold w bodies → IsWorld w → IsSafe w a → (runs : LiveRuns w a lines dids b)
    → ShowsAlong w bodies a b lines dids runs
shows_along w bodies a b _ _ told world safe NoLine = tt
shows_along w bodies a c _ _ told world safe
    (OneLine {b = b} {line = line} {lines = lines} {did = did} {dids = dids} does rest) = (
      line_shows w bodies a b line did told world safe does,
      shows_along w bodies b c lines dids told world
          (line_keeps_safe w a b line did world safe does) rest,
    )

-- ---- each body is the file's

-- the body that a line gave is the file's
abbrev pub IfGiven : World → LiveDid → Type 0
IfGiven w (DidGive p body) = IsFileBody w p body
IfGiven w (DidPlay did) = Unit {0}
IfGiven w (DidShow frame) = Unit {0}
IfGiven w (DidRounds log) = Unit {0}
IfGiven w DidNothing = Unit {0}
IfGiven w (DidRefuse fault) = Unit {0}

order_gives : (w : World) (a b : State) (order : LiveOrder) (did : LiveDid) → OrderDoes w a order did b → IfGiven w did
order_gives w a b _ _ (Gives p held) = held.of_file
order_gives w a b _ _ (Plays does) = tt
order_gives w a b _ _ (Shows i does) = tt
order_gives w a b _ _ (TurnsAll n rounds) = tt

line_gives : (w : World) (a b : State) (line : List ℕ) (did : LiveDid) → LiveDoes w a line did b → IfGiven w did
line_gives w a b line _ (Skips is) = tt
line_gives w a b line _ (Refuses fault is) = tt
line_gives w a b line did (Obeys order is does) = order_gives w a b order did does

pub lines_give : (w : World) (a b : State) (lines : List (List ℕ)) (dids : List LiveDid) → LiveRuns w a lines dids b
    → AllByRecursion (IfGiven w) dids
lines_give w a b _ _ NoLine = tt
lines_give w a c _ _ (OneLine {b = b} {line = line} {lines = lines} {did = did} {dids = dids} does rest) =
    (line_gives w a b line did does, lines_give w b c lines dids rest)
