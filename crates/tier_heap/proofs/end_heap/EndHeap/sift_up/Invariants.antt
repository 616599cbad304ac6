use Rattle.std.proofs.Common.{◌≡◌, ◌<◌}
use Rattle.tier_heap.specs.EndHeap.{Lists, IsLoose}
use Rattle.tier_heap.proofs.end_heap.EndHeap.sift_up.Given as goal

abbrev pub invariant-loop-at : goal.invariant-loop-at
invariant-loop-at l = record {
  lists : Lists l.ranks l.self;
  counted : l.at < l.self.count;
  loose : IsLoose l.ranks l.self l.at;
  same_end : l.self.end ≡ l.fn.self.end;
}

abbrev pub decreases-loop-at : goal.decreases-loop-at
decreases-loop-at l = l.at
