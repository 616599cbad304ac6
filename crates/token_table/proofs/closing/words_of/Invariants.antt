use Rattle.std.proofs.Common.{take}
use Rattle.std.specs.Mem.Slots.{slots_items}
use Rattle.token_table.specs.Closings.{AreRead}
use Rattle.token_table.proofs.closing.words_of.Given as goal

abbrev pub invariant-loop-patch : goal.invariant-loop-patch
invariant-loop-patch l = AreRead (take l.patch l.epochs) (slots_items l.closed.words) l.words.items
