use Rattle.std.proofs.Common.{◌≡◌, ◌<◌, ◌-◌}
use Rattle.tier_heap.specs.EndHeap.{Lists, IsLooseBelow}
use Rattle.tier_heap.proofs.end_heap.EndHeap.sift_down.Given as goal

abbrev pub invariant-loop-child : goal.invariant-loop-child
invariant-loop-child l = record {
  lists : Lists l.ranks l.self;
  counted : l.at < l.self.count;
  loose : IsLooseBelow l.ranks l.self l.at;
  same_end : l.self.end ≡ l.fn.self.end;
}

abbrev pub decreases-loop-child : goal.decreases-loop-child
decreases-loop-child l = l.self.count - l.at
