-- The text has the lines of the turns before this one.
use Rattle.std.proofs.Common.{◌≡◌, map, take}
use Rattle.run_model.specs.LineTexts.{turn_lines}
use Rattle.view_machine.specs.TurnClauses.{turn_in}
use Rattle.view_machine.proofs.machines.tiers.turns_text.Given as goal

abbrev pub invariant-loop-line : goal.invariant-loop-line
invariant-loop-line l = l.text.items ≡ turn_lines (map turn_in (take l.line-index l.log))
