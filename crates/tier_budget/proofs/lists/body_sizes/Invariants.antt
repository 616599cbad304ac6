-- The sizes of the patches before this one are listed.
use Rattle.std.proofs.Common.{◌≡◌, map, take}
use Rattle.file_model.specs.Lists.{body_size}
use Rattle.tier_budget.proofs.lists.body_sizes.Given as goal

abbrev pub invariant-loop-patch : goal.invariant-loop-patch
invariant-loop-patch l = l.sizes.items ≡ map (body_size l.index.version) (take l.patch l.index.fields)
