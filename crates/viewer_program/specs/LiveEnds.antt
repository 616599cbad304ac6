-- What each status of `live` means.
use Rattle.std.specs.Prelude.{◌≡◌, ◌⊎◌, ℕ, List, [], length, Option}
use Rattle.std.specs.List.{AllByRecursion, flat_map}
use Rattle.view_outside.specs.Faults.{Rose}
use Rattle.view_outside.specs.Streams.{appended}
use Rattle.view_outside.specs.Written.{WritesPart}
use Rattle.line_reader.specs.Reads.{IsAtEnd}
use Rattle.script_model.specs.declared.orders.Order.{Order}
use Rattle.text_model.specs.declared.statuses.Status.{Status}
use Rattle.text_model.specs.declared.statuses.Status.TheVariants as statuses
use Rattle.run_model.specs.Worlds.{World}
use Rattle.run_model.specs.States.{State}
use Rattle.run_model.specs.Lines.{Runs}
use Rattle.run_model.specs.RunTexts.{IsOpening}
use Rattle.live_model.specs.declared.limits.TheConstants.{MOST_LINES}
use Rattle.live_model.specs.LiveLines.{plain_dids}
use Rattle.live_model.specs.LiveLaws.{IfGiven}
use Rattle.live_machine.specs.Drives.{RunsLines}
use Rattle.viewer_program.specs.Loading.{StopsLoading}
use Rattle.viewer_program.specs.Outside.{SourceSeen, OutsideSeen}
use Rattle.viewer_program.specs.PlayEnds.{IsUntouched}
use Rattle.viewer_program.specs.Playing.{PlaySeen}
use Rattle.viewer_program.specs.PlayRuns.{IsWorldOf, HoldsBase}
use Rattle.viewer_program.specs.Promises.{KeepsPromises}
use Rattle.viewer_program.specs.Told.{named_bytes}

-- ---- the run

-- lines of the source ran in the world from its opening on, this text is what is answered to them, and this is left of
-- the source. What they did is a run of a script's lines, which keeps the promises of those, and each body that was
-- given is the file's
pub record IsDriven (w : World) (told rest : Option (List ℕ)) (text : List ℕ) : Type 0 where
  pub first : State
  pub opens : IsOpening w first
  pub last : State
  pub kept : List ℕ
  pub ran : RunsLines w first last told kept rest text
  pub orders : List Order
  pub plays : Runs w first orders (flat_map plain_dids ran.dids) last
  pub promises : KeepsPromises w plays
  pub given : AllByRecursion (IfGiven w) ran.dids

-- all lines were answered; they are all that the source had, or as many as are answered
pub record LivesWhole (w : World) (told rest before after : Option (List ℕ)) : Type 0 where
  pub text : List ℕ
  pub driven : IsDriven w told rest text
  pub end : ((driven.kept ≡ []) × IsAtEnd rest) ⊎ (length driven.ran.lines ≡ MOST_LINES)
  pub written : after ≡ appended before text

-- lines ran, and a proper prefix of their answers was written
pub record LivesPart (w : World) (told rest before after : Option (List ℕ)) : Type 0 where
  pub text : List ℕ
  pub driven : IsDriven w told rest text
  pub part : WritesPart before after text

-- the first lines were answered, whole; behind them this was left
pub record LivesSome (w : World) (told before after : Option (List ℕ)) : Type 0 where
  pub rest : Option (List ℕ)
  pub text : List ℕ
  pub driven : IsDriven w told rest text
  pub written : after ≡ appended before text

-- what a status says of a run of a driver's lines. Memory: no line was read, or the first ones were answered; at the
-- next there was none. ReadFault: the source failed at the next
abbrev pub LivesOver : World → Status → SourceSeen → SourceSeen → Option (List ℕ) → Option (List ℕ) → Type 0
LivesOver w statuses.Ok source now before after = LivesWhole w source.rest now.rest before after
LivesOver w statuses.WriteFault source now before after = LivesPart w source.rest now.rest before after
LivesOver w statuses.Memory source now before after =
    ((now ≡ source) × (after ≡ before)) ⊎ LivesSome w source.rest before after
LivesOver w statuses.ReadFault source now before after =
    LivesSome w source.rest before after × Rose source.faults now.faults
LivesOver w status source now before after = ⊥

-- ---- the command

-- the lines were answered in the world of the file and the words, whose base fits
pub record HasLived (play : PlaySeen) (told : Option (List ℕ)) (before after : OutsideSeen) (status : Status) : Type 0 where
  pub world : World
  pub of_words : IsWorldOf play told world
  pub holds : HoldsBase world
  pub lives : LivesOver world status before.source after.source before.sink.written after.sink.written

-- it stopped before a line was read, with nothing written, for a reason that a play has too; or lines were answered
abbrev pub LiveEnds : PlaySeen → List ℕ → OutsideSeen → OutsideSeen → Status → Type 0
LiveEnds play name before after status =
    (IsUntouched before after × StopsLoading play name before.store after.store status)
    ⊎ HasLived play (named_bytes before.store.files name) before after status
