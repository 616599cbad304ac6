-- One more size is listed.
use Rattle.std.proofs.Common.{◌<◌, length, arith}
use Rattle.file_model.specs.Lists.{body_size}
use Rattle.tier_budget.proofs.IndexWalks.{no_field, mapped_more, size_is}
use Rattle.tier_budget.proofs.lists.body_sizes.Goals as goal

pub loop-patch-preserved : goal.loop-patch-preserved
loop-patch-preserved c =
    let index = c.args.index.now in
    let within : c.loop-patch.patch < length index.fields = (let end = c.patch_count-patch-end.ensures.value in let before = c.loop-patch-test.true in omega arith) in
    mapped_more (body_size index.version) index.fields c.loop-patch.patch no_field c.loop-patch.sizes.items c.push.new.self.items c.body_size.result within c.loop-patch.invariant c.in_ok-push.ensures.items (size_is index.version index.fields c.loop-patch.patch c.body_size.result no_field within c.body_size.ensures.value)
