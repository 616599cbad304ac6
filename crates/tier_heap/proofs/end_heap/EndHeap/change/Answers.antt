use Rattle.std.proofs.Common.{ℕ, ◌<◌, List, Option, Some, set, IsSome}
use Rattle.tier_heap.specs.Entries.{rank_at}
use Rattle.tier_heap.specs.EndHeap.{place_of, Lists, IsLoose, IsEndHeap}
use Rattle.tier_heap.specs.declared.end_heap.EndHeap.{EndHeap}
use Rattle.tier_heap.proofs.ChangeLemmas.{agrees-set, some_set, changed}
use Rattle.tier_heap.specs.Laws.{id_in_range}
use Rattle.tier_heap.proofs.end_heap.EndHeap.change.Goals as goal

-- the id is listed, and alone may be out of order
kept : (ranks : List (Option ℕ)) (heap : EndHeap) (id : ℕ) → (rank : ℕ) × IsEndHeap (set ranks id (Some rank)) heap → IsSome (rank_at ranks id)
    → Lists ranks heap × (place_of heap id < heap.count) × IsLoose ranks heap (place_of heap id)
kept ranks heap id before is_in = changed _ ranks heap id before.1 (agrees-set ranks id _) (some_set ranks id before.0 (id_in_range ranks id is_in)) is_in

pub settle-requires-clause-at : goal.settle-requires-clause-at
settle-requires-clause-at c = rw c.place-at.ensures ((kept _ _ _ c.requires.heap c.requires.present).1)

pub settle-requires-clause-loose : goal.settle-requires-clause-loose
settle-requires-clause-loose c = rw c.place-at.ensures ((kept _ _ _ c.requires.heap c.requires.present).2)
