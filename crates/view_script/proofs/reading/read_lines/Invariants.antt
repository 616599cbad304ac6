use Rattle.std.proofs.Common.{◌≡◌, ◌+◌, length, drop}
use Rattle.script_model.specs.ScriptLines.{lines_of}
use Rattle.script_model.specs.Histories.{no_sessions}
use Rattle.script_model.specs.Scripts.{lines_in}
use Rattle.view_script.specs.Stages.{history_of}
use Rattle.view_script.proofs.TurnLemmas.{with_front}
use Rattle.view_script.proofs.reading.read_lines.Given as goal

abbrev pub invariant-loop-line : goal.invariant-loop-line
invariant-loop-line l = record {
  can_go_on : (goal.iterator-loop-line).can_next l.line-iterator;
  ends : (goal.iterator-loop-line).is_finite l.line-iterator;
  numbered : l.number ≡ length l.yielded + 1;
  for_mode : l.reader.mode ≡ l.fn.mode;
  for_tiers : l.reader.tiers ≡ l.fn.tiers;
  so_far : lines_in l.fn.mode l.fn.tiers no_sessions 1 (lines_of l.bytes)
      ≡ with_front l.reader.lines.items (lines_in l.fn.mode l.fn.tiers (history_of l.reader.sessions) l.number (drop (length l.yielded) (lines_of l.bytes)));
}
