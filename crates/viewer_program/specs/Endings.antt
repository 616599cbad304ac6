-- What each status means for what was written.
use Rattle.std.specs.Prelude.{◌≡◌, ℕ, List, Option}
use Rattle.file_model.specs.BodyFaults.{IsBodyFault}
use Rattle.text_model.specs.declared.statuses.Status.{Status}
use Rattle.text_model.specs.declared.statuses.Status.TheVariants as statuses
use Rattle.view_outside.specs.Streams.{appended}
use Rattle.view_outside.specs.Written.{WritesPart}
use Rattle.viewer_program.specs.declared.commands.FileCommand.{FileCommand}
use Rattle.viewer_program.specs.declared.commands.FileCommand.TheVariants.{Base, Check, Full, Convert, Cull, Sides, Pick}
use Rattle.viewer_program.specs.Answers.{IsRefusalOf, IsWideIn}

-- nothing was written, but where all of a text was, or a part
abbrev pub IsQuiet : Status → Option (List ℕ) → Option (List ℕ) → Type 0
IsQuiet statuses.Ok before after = Unit {0}
IsQuiet statuses.WriteFault before after = Unit {0}
IsQuiet status before after = after ≡ before

-- what a status that stops a command says of a file of these bytes: a refusal is theirs, a patch is the one that is too
-- wide, and a failing store or want of memory says nothing. No script is read, there is no budget, and a file whose bytes
-- are told doesn't change
abbrev pub StopsAt : FileCommand → List ℕ → Status → Type 0
StopsAt command bytes (statuses.Refused refusal) = IsRefusalOf bytes refusal
StopsAt command bytes statuses.ReadFault = Unit {0}
StopsAt command bytes statuses.Memory = Unit {0}
StopsAt command bytes (statuses.Wide patch) = IsWideIn command bytes patch
StopsAt command bytes status = ⊥

-- the command loads bodies again after the check
abbrev pub LoadsAgain : FileCommand → Type 0
LoadsAgain Base = Unit {0}
LoadsAgain Check = ⊥
LoadsAgain (Full view) = Unit {0}
LoadsAgain (Convert version) = Unit {0}
LoadsAgain (Cull planes) = Unit {0}
LoadsAgain (Sides plane) = ⊥
LoadsAgain (Pick view ray) = Unit {0}

-- the command converts to version 2, which not all files have
abbrev pub AsksForVersion2 : FileCommand → Type 0
AsksForVersion2 (Convert version) = version ≡ 2
AsksForVersion2 command = ⊥

-- the statuses that can stop a command before anything is written, whatever the store tells: a change only where bodies
-- are loaded again, and a patch that is too wide only where version 2 is asked for
abbrev pub CanStop : FileCommand → Status → Type 0
CanStop command (statuses.Refused refusal) = Unit {0}
CanStop command statuses.ReadFault = Unit {0}
CanStop command statuses.Memory = Unit {0}
CanStop command (statuses.Changed patch fault) = LoadsAgain command
CanStop command (statuses.Wide patch) = AsksForVersion2 command
CanStop command status = ⊥

-- Ok: a text was written and nothing else. WriteFault: a proper prefix of one. Any other status refuses
abbrev pub Ends : (List ℕ → Type 0) → (Status → Type 0) → Status → Option (List ℕ) → Option (List ℕ) → Type 0
Ends is_text refuses statuses.Ok before after = (text : List ℕ) × is_text text × (after ≡ appended before text)
Ends is_text refuses statuses.WriteFault before after = (text : List ℕ) × is_text text × WritesPart before after text
Ends is_text refuses status before after = refuses status

-- what changed of a patch is a fault that its body can have
abbrev pub IsChange : Status → Type 0
IsChange (statuses.Changed patch fault) = IsBodyFault patch fault
IsChange status = Unit {0}
