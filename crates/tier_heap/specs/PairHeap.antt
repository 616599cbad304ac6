-- What a heap with two ends keeps true of its fields.
use Rattle.std.specs.Prelude.{◌≡◌}
use Rattle.tier_heap.specs.EndHeap.{IsEndHeap}
use Rattle.tier_heap.specs.declared.end_heap.End.TheVariants.{Greatest, Least}
use Rattle.tier_heap.specs.declared.pair_heap.PairHeap.TheInside.{Inside}

-- both heaps list the ids of the map, each from its own end
pub record IsPairHeap (heap : Inside) : Type 0 where
  pub greatest : IsEndHeap heap.ranks.items heap.greatest
  pub greatest_end : heap.greatest.end ≡ Greatest
  pub least : IsEndHeap heap.ranks.items heap.least
  pub least_end : heap.least.end ≡ Least
