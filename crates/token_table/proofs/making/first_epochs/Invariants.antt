use Rattle.std.proofs.Common.{take}
use Rattle.token_table.specs.Makings.{AreStarts}
use Rattle.token_table.proofs.making.first_epochs.Given as goal

abbrev pub invariant-loop-patch : goal.invariant-loop-patch
invariant-loop-patch l = AreStarts l.start l.patches (take l.patch-index l.base) l.epochs.items
