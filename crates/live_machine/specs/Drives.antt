-- Driving: the lines that were taken, and what came of them.
use Rattle.std.specs.Prelude.{◌≡◌, ◌⊎◌, ℕ, List, [], length, Option}
use Rattle.view_outside.specs.Streams.{appended}
use Rattle.view_outside.specs.Written.{WritesPart}
use Rattle.line_reader.specs.Reads.{IsAtEnd}
use Rattle.run_model.specs.Worlds.{World}
use Rattle.run_model.specs.States.{State}
use Rattle.view_machine.specs.Stops.{StopsAt}
use Rattle.live_model.specs.declared.limits.TheConstants.{MOST_LINES}
use Rattle.live_model.specs.LiveLines.{LiveDid, LiveRuns}
use Rattle.live_model.specs.LiveTexts.{AreAnswersOf}
use Rattle.live_machine.specs.declared.refusals.DriveRefusal.{DriveRefusal}
use Rattle.live_machine.specs.declared.refusals.DriveRefusal.TheVariants.{ReadFault, WriteFault, Memory}
use Rattle.live_machine.specs.TakenLines.{HasTaken}

-- these lines were taken and ran, and the text is what is answered to them
pub record RunsLines (w : World) (a b : State) (told : Option (List ℕ)) (kept : List ℕ) (rest : Option (List ℕ)) (text : List ℕ) : Type 0 where
  pub lines : List (List ℕ)
  pub taken : HasTaken told lines kept rest
  pub dids : List LiveDid
  pub runs : LiveRuns w a lines dids b
  pub answers : AreAnswersOf dids text

-- lines ran, and all their answers were written
pub record HasDriven (w : World) (a b : State) (told : Option (List ℕ)) (kept : List ℕ) (rest before after : Option (List ℕ)) : Type 0 where
  pub text : List ℕ
  pub ran : RunsLines w a b told kept rest text
  pub written : after ≡ appended before text

-- the source ended behind the lines, or they are as many as are answered
pub record DrivesThrough (w : World) (a b : State) (told rest before after : Option (List ℕ)) : Type 0 where
  pub kept : List ℕ
  pub driven : HasDriven w a b told kept rest before after
  pub end : ((kept ≡ []) × IsAtEnd rest) ⊎ (length driven.ran.lines ≡ MOST_LINES)

-- lines ran and were answered; at the next there was no memory, or the source failed. What was read of that one is lost
pub record StopsBetween (w : World) (a b : State) (told before after : Option (List ℕ)) : Type 0 where
  pub reached : State
  pub kept : List ℕ
  pub rest : Option (List ℕ)
  pub driven : HasDriven w a reached told kept rest before after
  pub stops : StopsAt w reached b

-- lines ran, and of their answers a proper prefix was written
pub record StopsWithin (w : World) (a b : State) (told rest before after : Option (List ℕ)) : Type 0 where
  pub kept : List ℕ
  pub text : List ℕ
  pub ran : RunsLines w a b told kept rest text
  pub part : WritesPart before after text

abbrev pub StopsDriving : DriveRefusal → World → State → State → Option (List ℕ) → Option (List ℕ) → Option (List ℕ) → Option (List ℕ) → Type 0
StopsDriving ReadFault w a b told rest before after = StopsBetween w a b told before after
StopsDriving Memory w a b told rest before after = StopsBetween w a b told before after
StopsDriving WriteFault w a b told rest before after = StopsWithin w a b told rest before after
