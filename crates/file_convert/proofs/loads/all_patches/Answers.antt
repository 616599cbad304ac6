use Rattle.std.proofs.Common.{length, refl, arith}
use Rattle.std.proofs.lemmas.Iterator.{YieldsList-from_range, items_from_collect}
use Rattle.file_convert.proofs.loads.all_patches.Goals as goal

pub returns : goal.returns
returns c =
    rw c.in_ok-collect.was at (items_from_collect c.collect.result c.collect.ensures.ran (YieldsList-from_range 0 c.patch_count.result (length c.args.index.now.fields) (rw c.patch_count.ensures.value refl) (omega (arith, c.patch_count.ensures.value))))
