-- Fewer places are at and after a child.
use Rattle.std.proofs.Common.{◌-◌}
use Rattle.tier_heap.proofs.end_heap.EndHeap.+first_under.Given as goal

abbrev pub decreases-first_under : goal.decreases-first_under
decreases-first_under g l = l.self.now.count - l.at
