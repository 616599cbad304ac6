-- The sum over the patches before this one, of at most a whole file each.
use Rattle.std.proofs.Common.{◌≡◌, ◌*◌, ◌^◌, ◌≤◌, take}
use Rattle.body_loads.specs.Loads.{sizes_sum}
use Rattle.cache_chain.proofs.opening.size_of_all.Given as goal

abbrev pub invariant-loop-patch : goal.invariant-loop-patch
invariant-loop-patch l = record {
  sum : l.sum ≡ sizes_sum l.index (take l.patch-index l.patches);
  few : l.sum ≤ 2 ^ 40 * l.patch-index;
}
