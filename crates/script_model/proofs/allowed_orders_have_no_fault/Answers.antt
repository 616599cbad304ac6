use Rattle.script_model.specs.ScriptLaws.{faultless_in_play, allowed-faultless}
use Rattle.script_model.proofs.allowed_orders_have_no_fault.Goals as goal

pub returns : goal.returns
returns c = λ tiers history number order. (allowed-faultless tiers history number order, faultless_in_play tiers history number order)
