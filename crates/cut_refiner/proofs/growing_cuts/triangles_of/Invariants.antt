-- The sum over the patches before this one, of at most two bytes each.
use Rattle.std.proofs.Common.{◌≡◌, ◌*◌, ◌≤◌, take}
use Rattle.std.specs.List.{sum_by}
use Rattle.cut_refiner.specs.GrowingCuts.{triangles_at}
use Rattle.cut_refiner.proofs.growing_cuts.triangles_of.Given as goal

abbrev pub invariant-loop-patch : goal.invariant-loop-patch
invariant-loop-patch l = record {
  sum : l.sum ≡ sum_by (triangles_at l.fields) (take l.patch-index l.patches);
  few : l.sum ≤ 65535 * l.patch-index;
}
