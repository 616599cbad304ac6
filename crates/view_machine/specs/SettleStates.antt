-- A settling of a chain, as turns in the state of a run.
use Rattle.std.proofs.Common.{ℕ, List, [], ◌∷◌, ◌++◌, Option}
use Rattle.session_model.specs.Sessions.{SessionState}
use Rattle.tier_model.specs.declared.turns.Turn.{Turn}
use Rattle.tier_model.specs.Ranks.{Posted}
use Rattle.tier_model.specs.Chains.{Chain}
use Rattle.tier_model.specs.Settling.{Settles}
use Rattle.cache_chain.specs.SettleOrder.{IdlesLast, IdleLast, IdleLater, SettleLog, NoTier, OneTier, settle_log}
use Rattle.cache_chain.specs.TurnRuns.{Setting, Moment, MakesTurns, Begins}
use Rattle.cache_chain.specs.TurnRuns.{Then as AndTurn}
use Rattle.run_model.specs.Worlds.{World, IsWorld}
use Rattle.run_model.specs.States.{State, board_of}
use Rattle.run_model.specs.Turning.{TurnsTo}
use Rattle.run_model.specs.Events.{Turns, Reaches, Stays, Then}
use Rattle.run_model.specs.Safe.{IsSafe}
use Rattle.run_laws.specs.SafeLaws.{events_keep_safe}
use Rattle.run_model.specs.Lines.{IdlesTo, LastTurn, MoreTurns, SettlesTo, AllSettled, TierSettles}
use Rattle.view_machine.specs.TurnStates.{state_at, IsSettingOf, turn_tells}

-- ---- turns in the state of a run

-- these turns were made, one after another
pub data MakesAll (w : World) : State → List (ℕ × Turn) → State → Type 0 where
  MakesNone : {a : State} → MakesAll w a [] a
  MakesMore : {a b c : State} {log : List (ℕ × Turn)} (k : ℕ) (answer : Turn) → TurnsTo w k a answer b → MakesAll w b log c → MakesAll w a ((k, answer) ∷ log) c

makes_both : (w : World) (a b c : State) (log rest : List (ℕ × Turn)) → MakesAll w a log b → MakesAll w b rest c → MakesAll w a (log ++ rest) c
makes_both w a b c _ rest MakesNone more = more
makes_both w a b c _ rest (MakesMore {b = next} {log = log} k answer turn turns) more = MakesMore k answer turn (makes_both w next b c log rest turns more)

pub makes_reach : (w : World) (a b : State) (log : List (ℕ × Turn)) → MakesAll w a log b → Reaches w a b
makes_reach w a b _ MakesNone = Stays
makes_reach w a b _ (MakesMore {b = next} {log = log} k answer turn turns) = Then (Turns k answer turn) (makes_reach w next b log turns)

record IsSplit (w : World) (a : State) (log rest : List (ℕ × Turn)) (c : State) : Type 0 where
  middle : State
  first : MakesAll w a log middle
  then : MakesAll w middle rest c

split : (w : World) (a c : State) (log rest : List (ℕ × Turn)) → MakesAll w a (log ++ rest) c → IsSplit w a log rest c
split w a c [] rest makes = record { middle = a; first = MakesNone; then = makes }
split w a c (t ∷ log) rest (MakesMore {b = b} k answer turn turns) =
    let others = split w b c log rest turns in
    record { middle = others.middle; first = MakesMore k answer turn others.first; then = others.then }

idles_to : (w : World) (k : ℕ) (a b : State) (log : List (ℕ × Turn)) → IdlesLast k log → MakesAll w a log b → IdlesTo w k a log b
idles_to w k a b _ IdleLast (MakesMore _ _ turn MakesNone) = LastTurn turn
idles_to w k a c _ (IdleLater {log = log} answer going later) (MakesMore {b = b} _ _ turn turns) = MoreTurns answer going turn (idles_to w k b c log later turns)

settles_to : (w : World) (n : ℕ) (a b : State) (log : List (ℕ × Turn)) → SettleLog n log → MakesAll w a log b → SettlesTo w n a log b
settles_to w _ a _ _ NoTier MakesNone = AllSettled
settles_to w _ a c _ (OneTier {n = n} {log = log} {rest = rest} tier others) makes =
    let parts = split w a c log rest makes in
    TierSettles (idles_to w n a parts.middle log tier parts.first) (settles_to w n parts.middle c rest others parts.then)

-- ---- from the chain to the run

module _ (w : World) (world : IsWorld w) (sessions : ℕ → Option SessionState) (posted : ℕ → Option Posted) (version : ℕ) (u : Setting) where
  abbrev at : Moment → State
  at m = state_at sessions posted version m

  pub setting_again : (m n : Moment) → IsSettingOf w (at m) u → IsSettingOf w (at n) u
  unfolding board_of
  setting_again m n setting = record { board = setting.board; sets = setting.sets; index = setting.index; bodies = setting.bodies }

  -- the chain's turns are the run's, which keep its state safe
  pub record IsMade (m : Moment) (log : List (ℕ × Turn)) (n : Moment) : Type 0 where
    pub makes : MakesAll w (at m) log (at n)
    pub safe : IsSafe w (at n)

  pub all_made : (m n : Moment) (log : List (ℕ × Turn)) → IsSettingOf w (at m) u → IsSafe w (at m) → MakesTurns u m log n → IsMade m log n
  all_made m n _ setting safe Begins = record { makes = MakesNone; safe = safe }
  all_made m o _ setting safe (AndTurn {made = made} {n = n} k answer earlier turn) =
      let before = all_made m n made setting safe earlier in
      let here = turn_tells w sessions posted version u k answer n o (setting_again m n setting) (λ t there. (before.safe.set_up k t there).made) turn in
      record {
        makes = makes_both w (at m) (at n) (at o) made ((k, answer) ∷ []) before.makes (MakesMore k answer here MakesNone);
        safe = events_keep_safe w (at n) (at o) world before.safe (Then (Turns k answer here) Stays);
      }

  -- the chain's turns are the run's
  pub turns_tell : (m n : Moment) (log : List (ℕ × Turn)) → IsSettingOf w (at m) u → IsSafe w (at m) → MakesTurns u m log n → MakesAll w (at m) log (at n)
  turns_tell m n log setting safe makes = (all_made m n log setting safe makes).makes

  -- where the chain settles, the run does
  pub settling_tells : (tiers : ℕ) (m n : Moment) (log : List (ℕ × Turn)) (a b : Chain) → IsSettingOf w (at m) u → IsSafe w (at m) → Settles u.board tiers a log b → MakesTurns u m log n → SettlesTo w tiers (at m) log (at n)
  settling_tells tiers m n log a b setting safe settles makes =
      settles_to w tiers (at m) (at n) log (settle_log u.board tiers a b log settles) (turns_tell m n log setting safe makes)
