use Rattle.script_model.specs.ScriptLaws.{are_lines}
use Rattle.view_script.proofs.scripts.script_of.Goals as goal

pub invariant_of-result : goal.invariant_of-result
invariant_of-result c = are_lines c.args.mode c.args.tiers c.args.bytes.now c.in-Ok.lines.items c.in-Ok.ensures.value
