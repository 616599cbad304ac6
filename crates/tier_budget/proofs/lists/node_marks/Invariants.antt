-- The heads of the patches before this one are marked.
use Rattle.std.proofs.Common.{take}
use Rattle.tier_budget.specs.Heads.{AreHeads}
use Rattle.tier_budget.proofs.lists.node_marks.Given as goal

abbrev pub invariant-loop-field : goal.invariant-loop-field
invariant-loop-field l = AreHeads (record { version = l.index.version; nodes = l.index.nodes; fields = take l.field-index l.index.fields }) l.marks.items
