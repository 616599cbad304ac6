-- What a command writes of a file that was checked, or why there is nothing.
use Rattle.std.specs.Prelude.{ℕ, List, Result, Ok, Err}
use Rattle.std.specs.Global.{Vec}
use Rattle.grid_vertex.specs.declared.memory.NoMemory.{NoMemory}
use Rattle.file_model.specs.Lists.{FileLists}
use Rattle.file_model.specs.Spelling.{file_text}
use Rattle.file_model.specs.Rules.{IsPatchFile}
use Rattle.body_loads.specs.declared.refusals.LoadRefusal.{LoadRefusal}
use Rattle.text_model.specs.declared.statuses.Status.{Status}
use Rattle.text_model.specs.declared.statuses.Status.TheVariants as statuses
use Rattle.viewer_program.specs.declared.commands.FileCommand.{FileCommand}
use Rattle.viewer_program.specs.declared.outputs.Output.{Output}
use Rattle.viewer_program.specs.declared.outputs.Output.TheVariants.{Text, File}
use Rattle.viewer_program.specs.Answers.{IsTextOf, IsWideFor}
use Rattle.viewer_program.specs.Refusals.{load_status}

-- the bytes that are written
abbrev pub output_text : Output → List ℕ
output_text (Text text) = text.items
output_text (File parts) = file_text parts

-- parts are written only where they are a patch file
abbrev pub IsWritable : Output → Type 0
IsWritable (Text text) = Unit {0}
IsWritable (File parts) = IsPatchFile parts (file_text parts)

-- a text that was made is written, and a load's refusal is a status
abbrev pub text_output : Result (Vec ℕ) LoadRefusal → Result Output Status
text_output (Ok text) = Ok (Text text)
text_output (Err refusal) = Err (load_status refusal)

-- lines that were made are written, and only want of memory stops them
abbrev pub lines_output : Result (Vec ℕ) NoMemory → Result Output Status
lines_output (Ok text) = Ok (Text text)
lines_output (Err no_memory) = Err statuses.Memory

-- what a status says that stops a command after the check of this file: its least wide patch is one that the command can't
-- write, and a failing store or want of memory says nothing. A file whose bytes are told doesn't change
abbrev pub StopsAfter : FileCommand → FileLists → Status → Type 0
StopsAfter command file statuses.ReadFault = Unit {0}
StopsAfter command file statuses.Memory = Unit {0}
StopsAfter command file (statuses.Wide patch) = IsWideFor command file patch
StopsAfter command file status = ⊥

-- what the command writes of this file is as it should be, or the status says why there is nothing
abbrev pub GivesOutput : FileCommand → FileLists → ℕ → Result Output Status → Type 0
GivesOutput command file root (Ok output) = IsTextOf command file root (output_text output)
GivesOutput command file root (Err status) = StopsAfter command file status
