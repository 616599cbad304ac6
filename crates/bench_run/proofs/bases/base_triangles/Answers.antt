-- One more patch, of at most 65535 triangles.
use Rattle.std.proofs.Common.{arith}
use Rattle.bench_run.specs.BaseSizes.{base_more}
use Rattle.bench_run.proofs.bases.base_triangles.Goals as goal

pub loop-patch-preserved : goal.loop-patch-preserved
loop-patch-preserved c =
    let more = base_more c.args.root c.loop-patch.patch c.args.index.now.fields c.patch.result c.patch.ensures in
    record {
      sum = omega (arith, more, c.part_of-sum.ensures.value, c.loop-patch.invariant.sum);
      few = omega (arith, c.part_of-sum.ensures.few, c.loop-patch.invariant.few);
    }
