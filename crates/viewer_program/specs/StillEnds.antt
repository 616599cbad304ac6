-- What a command on one thread does, by its words.
use Rattle.std.specs.Prelude.{◌≡◌, ◌↔◌, ℕ, ◌+◌, List, IfSome, IsNone}
use Rattle.script_model.specs.declared.limits.TheConstants.{MOST_SCRIPT}
use Rattle.text_model.specs.declared.statuses.Status.{Status}
use Rattle.text_model.specs.declared.statuses.Status.TheVariants as statuses
use Rattle.view_outside.specs.Faults.{Rose}
use Rattle.view_outside.specs.Files.{HasName, LacksName}
use Rattle.view_outside.specs.OnlyRead.{OnlyIf}
use Rattle.line_reader.specs.Reads.{ReadsAtMost}
use Rattle.viewer_program.specs.declared.commands.FileCommand.{FileCommand}
use Rattle.viewer_program.specs.declared.strips.StripCommand.{StripCommand}
use Rattle.viewer_program.specs.Answers.{IsTextOf, IsOfAccepted, IsTextOfKind}
use Rattle.viewer_program.specs.Commands.{command_in, name_in}
use Rattle.viewer_program.specs.Endings.{StopsAt, CanStop, Ends, IsChange, IsQuiet}
use Rattle.viewer_program.specs.LiveEnds.{LiveEnds}
use Rattle.viewer_program.specs.Outside.{OutsideSeen}
use Rattle.viewer_program.specs.PlayEnds.{PlayEnds, IsMissing}
use Rattle.viewer_program.specs.Playing.{play_in, live_play_in}
use Rattle.viewer_program.specs.Strips.{strip_command_in, IsStripOutput, IsForMemory}
use Rattle.viewer_program.specs.Told.{named_bytes}
use Rattle.viewer_program.specs.WideTold.{IsBehindLoads}

-- a command over the file of the name
pub record CommandEnds (command : FileCommand) (name : List ℕ) (before after : OutsideSeen) (status : Status) : Type 0 where
  -- what each status means where the store tells the bytes of the file
  pub told : IfSome (named_bytes before.store.files name) (λ bytes.
      Ends (IsOfAccepted (IsTextOf command) bytes) (StopsAt command bytes) status before.sink.written
      after.sink.written)
  -- which statuses it can have whatever the store tells; what it writes is a text of its kind
  pub kinds : Ends (IsTextOfKind command) (CanStop command) status before.sink.written after.sink.written
  -- nothing is written but where the status is Ok or WriteFault
  pub quiet : IsQuiet status before.sink.written after.sink.written
  -- a read fault comes only where the store failed, or tells that it has no such file
  pub read_fault :
      OnlyIf statuses.ReadFault (HasName before.store.files name → Rose before.store.faults after.store.faults) status
  -- where it tells that, it always comes
  pub missing : LacksName before.store.files name → status ≡ statuses.ReadFault
  -- a patch is told to be too wide only behind the reading of the file and then of all its bodies
  pub wide : IsBehindLoads (named_bytes before.store.files name) before.store.taken after.store.taken status

-- a command over a strip
pub record StripEnds (command : StripCommand) (before after : OutsideSeen) (status : Status) : Type 0 where
  -- the strip's file or a bench summary is written whole, but for a sink that fails and for want of memory
  pub makes : Ends (IsStripOutput command) IsForMemory status before.sink.written after.sink.written
  -- nothing is written but where the status is Ok or WriteFault
  pub quiet : IsQuiet status before.sink.written after.sink.written
  -- the store isn't asked for it
  pub alone : after.store ≡ before.store

-- what the words did to the outside, and how that is told
pub record StillEnds (words : List (List ℕ)) (before after : OutsideSeen) (status : Status) : Type 0 where
  -- the words are no command exactly where the status is Usage, and then nothing was touched
  pub usage : (status ≡ statuses.Usage)
      ↔ (IsNone (command_in words) × IsNone (play_in words) × IsNone (live_play_in words) × IsNone (strip_command_in words))
  pub idle : status ≡ statuses.Usage → after ≡ before
  -- else they are one of these
  pub commands : IfSome (command_in words) (λ command. CommandEnds command (name_in words) before after status)
  pub plays : IfSome (play_in words) (λ play. PlayEnds play (name_in words) before after status)
  pub lives : IfSome (live_play_in words) (λ play. LiveEnds play (name_in words) before after status)
  pub strips : IfSome (strip_command_in words) (λ command. StripEnds command before after status)
  -- a play whose file is missing doesn't read its script
  pub missing : IfSome (play_in words) (λ _.
      LacksName before.store.files (name_in words) → IsMissing before after status)
  -- nor does a driver's run read a line then
  pub missing_live : IfSome (live_play_in words) (λ _.
      LacksName before.store.files (name_in words) → IsMissing before after status)
  -- only a play and a driver's run read the source, a play at most to one byte past the most that a script has
  pub unread : IsNone (play_in words) → IsNone (live_play_in words) → after.source ≡ before.source
  pub reads : IsNone (live_play_in words) → ReadsAtMost (MOST_SCRIPT + 1) before.source.rest after.source.rest
  -- a change is told with a fault that the patch's body can have
  pub changed : IsChange status
  -- a write fault comes only where the sink failed
  pub write_fault : OnlyIf statuses.WriteFault (Rose before.sink.faults after.sink.faults) status
