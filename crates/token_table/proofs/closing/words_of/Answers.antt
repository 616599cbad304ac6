use Rattle.std.proofs.Common.{◌≡◌, ◌+◌, take, get_or, sym, subst, refl, arith}
use Rattle.std.specs.Mem.Slots.{slots_items}
use Rattle.token_table.specs.Closings.{AreRead}
use Rattle.token_table.proofs.Rows.{read-more, get_or-elem}
use Rattle.token_table.proofs.closing.words_of.Goals as goal

pub loop-patch-preserved : goal.loop-patch-preserved
loop-patch-preserved c =
    let pushed = c.in_ok-push.ensures.items in
    let found : get_or (slots_items c.args.closed.now.words) c.loop-patch.patch 0 ≡ c.word.result = get_or-elem (slots_items c.args.closed.now.words) c.loop-patch.patch _ 0 c.word.ensures in
    let epoch : c.from.result ≡ get_or c.args.epochs.now c.loop-patch.patch 0 = c.from.ensures in
    subst (AreRead (take (c.loop-patch.patch + 1) c.args.epochs.now) (slots_items c.args.closed.now.words)) (sym pushed)
    (read-more c.args.epochs.now (slots_items c.args.closed.now.words) c.loop-patch.words.items _ c.loop-patch.patch (omega arith) c.loop-patch.invariant refl (rw (found, epoch) refl))
