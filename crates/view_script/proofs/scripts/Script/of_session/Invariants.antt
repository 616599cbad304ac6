use Rattle.std.proofs.Common.{◌≡◌, take}
use Rattle.std.specs.List.{filter}
use Rattle.script_model.specs.Orders.{is_of_session}
use Rattle.view_script.proofs.scripts.Script.of_session.Given as goal

abbrev pub invariant-loop-line : goal.invariant-loop-line
invariant-loop-line l = l.lines.items ≡ filter (is_of_session l.session) (take l.line-index l.line-items)
