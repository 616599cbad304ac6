use Rattle.std.proofs.Common.{◌≡◌}
use Rattle.std.specs.List.{flat_map, range_with_len}
use Rattle.strip_laws.specs.Strip.{halves}
use Rattle.mesh_maker.specs.Parts.{with_patches}
use Rattle.mesh_maker.proofs.patches.add_all_halves.Given as goal

abbrev pub invariant-loop-column : goal.invariant-loop-column
invariant-loop-column l = l.parts ≡ with_patches l.fn.parts (flat_map (halves l.columns) (range_with_len 0 l.column))
