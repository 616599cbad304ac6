-- Refusals as statuses.
use Rattle.dag_check.specs.declared.refusals.CheckRefusal.{CheckRefusal}
use Rattle.dag_check.specs.declared.refusals.CheckRefusal.TheVariants as checks
use Rattle.body_loads.specs.declared.refusals.LoadRefusal.{LoadRefusal}
use Rattle.body_loads.specs.declared.refusals.LoadRefusal.TheVariants as loads
use Rattle.file_convert.specs.declared.refusals.ConvertRefusal.{ConvertRefusal}
use Rattle.file_convert.specs.declared.refusals.ConvertRefusal.TheVariants as converts
use Rattle.cache_chain.specs.declared.refusals.StartRefusal.{StartRefusal}
use Rattle.cache_chain.specs.declared.refusals.StartRefusal.TheVariants as starts
use Rattle.std.specs.Prelude.{Result, Ok, Err}
use Rattle.live_machine.specs.declared.refusals.DriveRefusal.{DriveRefusal}
use Rattle.live_machine.specs.declared.refusals.DriveRefusal.TheVariants as drives
use Rattle.view_machine.specs.declared.refusals.RunRefusal.{RunRefusal}
use Rattle.view_machine.specs.declared.refusals.RunRefusal.TheVariants as runs
use Rattle.view_script.specs.declared.refusals.ScriptRefusal.{ScriptRefusal}
use Rattle.view_script.specs.declared.refusals.ScriptRefusal.TheVariants as scripts
use Rattle.text_model.specs.declared.statuses.Status.{Status}
use Rattle.text_model.specs.declared.statuses.Status.TheVariants as statuses
use Rattle.text_model.specs.declared.statuses.Status.TheVariants.{Refused, ReadFault, Memory, Changed, Wide, Budget, Script}

-- a fault refuses the file; a failing store and want of memory are statuses of their own
abbrev pub check_status : CheckRefusal → Status
check_status (checks.Refused refusal) = Refused refusal
check_status checks.ReadFault = ReadFault
check_status checks.Memory = Memory

-- a body that breaks its rule after the check tells that the file changed
abbrev pub load_status : LoadRefusal → Status
load_status (loads.Changed patch fault) = Changed patch fault
load_status loads.ReadFault = ReadFault
load_status loads.Memory = Memory

-- a patch that is too wide for a version is the status of a file that has none of it
abbrev pub convert_status : ConvertRefusal → Status
convert_status (converts.Wide patch) = Wide patch
convert_status converts.Memory = Memory

-- a first budget that doesn't hold the base is a status of its own
abbrev pub start_status : StartRefusal → Status
start_status (starts.Budget need given) = Budget need given
start_status (starts.Changed patch fault) = Changed patch fault
start_status starts.ReadFault = ReadFault
start_status starts.Memory = Memory

-- so is a fault of the script
abbrev pub script_status : ScriptRefusal → Status
script_status (scripts.Script fault) = Script fault
script_status scripts.ReadFault = ReadFault
script_status scripts.Memory = Memory

-- a run ends well, or tells what failed
abbrev pub run_status : {T : Type 0} → Result T RunRefusal → Status
run_status (Ok x) = statuses.Ok
run_status (Err runs.WriteFault) = statuses.WriteFault
run_status (Err runs.Memory) = Memory

-- so does driving
abbrev pub drive_status : {T : Type 0} → Result T DriveRefusal → Status
drive_status (Ok x) = statuses.Ok
drive_status (Err drives.ReadFault) = ReadFault
drive_status (Err drives.WriteFault) = statuses.WriteFault
drive_status (Err drives.Memory) = Memory
