-- What was read stands in front of what is left.
use Rattle.std.proofs.Common.{◌≡◌, drop, length, map}
use Rattle.std.specs.Prelude.{string_bytes}
use Rattle.viewer_program.specs.Playing.{budgets_in}
use Rattle.viewer_program.proofs.PlayWords.{behind}
use Rattle.viewer_program.proofs.plays.reading.read_budgets.Given as goal

abbrev pub invariant-loop-word : goal.invariant-loop-word
invariant-loop-word l = record {
  so_far : behind l.budgets.items (budgets_in (drop l.word-index (map string_bytes l.words))) ≡ budgets_in (map string_bytes l.words);
  many : length l.budgets.items ≡ l.word-index;
}
