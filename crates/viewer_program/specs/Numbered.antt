-- Which statuses tell numbers.
use Rattle.std.specs.Prelude.{Bool, true, false}
use Rattle.text_model.specs.declared.statuses.Status.{Status}
use Rattle.text_model.specs.declared.statuses.Status.TheVariants as statuses

-- the line of the status has numbers
abbrev pub has_numbers : Status → Bool
has_numbers statuses.Ok = false
has_numbers statuses.Usage = false
has_numbers statuses.ReadFault = false
has_numbers statuses.WriteFault = false
has_numbers statuses.Memory = false
has_numbers status = true
