-- Statuses that stop a command.
use Rattle.std.proofs.Common.{◌≡◌}
use Rattle.text_model.specs.declared.statuses.Status.{Status}
use Rattle.text_model.specs.declared.statuses.Status.TheVariants as statuses
use Rattle.view_outside.specs.OnlyRead.{OnlyIf}
use Rattle.viewer_program.specs.declared.commands.FileCommand.{FileCommand}
use Rattle.viewer_program.specs.Endings.{CanStop}

-- a status that stops a command is neither the sink's failure
pub stop-no_write_fault : (fact : Type 0) (command : FileCommand) (status : Status) → CanStop command status → OnlyIf statuses.WriteFault fact status
stop-no_write_fault fact command statuses.Ok stop is = absurd stop
stop-no_write_fault fact command statuses.Usage stop is = absurd stop
stop-no_write_fault fact command (statuses.Refused refusal) stop is = absurd cc
stop-no_write_fault fact command statuses.ReadFault stop is = absurd cc
stop-no_write_fault fact command statuses.WriteFault stop is = absurd stop
stop-no_write_fault fact command (statuses.Script fault) stop is = absurd stop
stop-no_write_fault fact command (statuses.Budget need given) stop is = absurd stop
stop-no_write_fault fact command statuses.Memory stop is = absurd cc
stop-no_write_fault fact command (statuses.Changed patch fault) stop is = absurd cc
stop-no_write_fault fact command (statuses.Wide patch) stop is = absurd cc

-- nor one of words that are no command
pub stop-not_usage : (command : FileCommand) (status : Status) → CanStop command status → status ≡ statuses.Usage → ⊥
stop-not_usage command statuses.Ok stop is = stop
stop-not_usage command statuses.Usage stop is = stop
stop-not_usage command (statuses.Refused refusal) stop is = cc
stop-not_usage command statuses.ReadFault stop is = cc
stop-not_usage command statuses.WriteFault stop is = stop
stop-not_usage command (statuses.Script fault) stop is = stop
stop-not_usage command (statuses.Budget need given) stop is = stop
stop-not_usage command statuses.Memory stop is = cc
stop-not_usage command (statuses.Changed patch fault) stop is = cc
stop-not_usage command (statuses.Wide patch) stop is = cc
