use Rattle.std.proofs.Common.{◌≡◌, map}
use Rattle.std.specs.List.{range_with_len}
use Rattle.strip_laws.specs.Strip.{opened}
use Rattle.mesh_maker.specs.Parts.{with_patches}
use Rattle.mesh_maker.proofs.patches.add_all_opened.Given as goal

abbrev pub invariant-loop-before : goal.invariant-loop-before
invariant-loop-before l = l.parts ≡ with_patches l.fn.parts (map (opened l.columns) (range_with_len 0 l.before))
