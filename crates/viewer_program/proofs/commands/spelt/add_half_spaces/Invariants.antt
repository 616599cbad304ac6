-- What the words that are left add is what all of them add.
use Rattle.std.proofs.Common.{◌≡◌, Some, length, map}
use Rattle.std.specs.Prelude.{string_bytes}
use Rattle.viewer_program.specs.Spelt.{with_half_spaces}
use Rattle.viewer_program.proofs.commands.spelt.add_half_spaces.Given as goal

abbrev pub invariant-loop-rest : goal.invariant-loop-rest
invariant-loop-rest l = with_half_spaces (Some l.planes) (map string_bytes l.rest) ≡ with_half_spaces (Some l.fn.planes) (map string_bytes l.fn.words)

abbrev pub decreases-loop-rest : goal.decreases-loop-rest
decreases-loop-rest l = length l.rest
