-- One more patch, of at most a whole file.
use Rattle.std.proofs.Common.{arith, slice_index_or}
use Rattle.std.proofs.lemmas.List.Sums.{sum_by_more}
use Rattle.body_loads.specs.Loads.{size_at}
use Rattle.cache_chain.proofs.LoadedBodies.{size_told}
use Rattle.cache_chain.proofs.opening.size_of_all.Goals as goal

pub loop-patch-preserved : goal.loop-patch-preserved
loop-patch-preserved c =
    let index = c.args.index.now in
    let patch = slice_index_or c.args.patches.now c.loop-patch.patch-index 0 in
    let here = (size_told index.version index.fields patch c.body_size-sum.result (c.requires.patches c.loop-patch.patch-index 0 c.loop-patch-test.true) c.body_size-sum.ensures.value).1 in
    let more = sum_by_more (size_at index) c.args.patches.now c.loop-patch.patch-index 0 c.loop-patch-test.true in
    record {
      sum = omega (arith, more, here, c.loop-patch.invariant.sum);
      few = omega (arith, c.body_size-sum.ensures.within, c.body_size-sum.ensures.short, c.loop-patch.invariant.few);
    }
