-- The sum over the patches before this one, of at most 65535 triangles each.
use Rattle.std.proofs.Common.{◌≡◌, ◌*◌, ◌≤◌, take}
use Rattle.bench_run.specs.BaseSizes.{base_sum}
use Rattle.bench_run.proofs.bases.base_triangles.Given as goal

abbrev pub invariant-loop-patch : goal.invariant-loop-patch
invariant-loop-patch l = record {
  sum : l.sum ≡ base_sum l.fn.root (take l.patch l.fn.index.fields);
  few : l.sum ≤ 65535 * l.patch;
}
