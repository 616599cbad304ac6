-- One word more.
use Rattle.std.proofs.Common.{◌+◌, List, sym, subst, rules}
use Rattle.token_words.specs.declared.entries.Entry.{Entry}
use Rattle.token_words.proofs.EntryReads.{AreUnpinned, unpinned_more, unpinned_all}
use Rattle.token_words.proofs.plain_words.PlainTokens.unpinned.Goals as goal

pub loop-epoch-preserved : goal.loop-epoch-preserved
loop-epoch-preserved c =
    subst (λ (entries : List Entry). AreUnpinned c.args.epochs.now (c.loop-epoch.epoch-index + 1) entries) (sym c.in_ok-push.ensures.items)
    (unpinned_more c.args.epochs.now c.loop-epoch.epoch-index c.loop-epoch.tokens.entries.items c.unused.result _ c.loop-epoch-test.true (search rules) c.unused.ensures.epoch c.unused.ensures.pin
    c.unused.ensures.users c.unused.ensures.lockers c.loop-epoch.invariant)

pub returns : goal.returns
returns c = unpinned_all c.args.epochs.now c.loop-epoch.epoch-index c.loop-epoch.tokens c.loop-epoch-test.false c.loop-epoch.invariant
