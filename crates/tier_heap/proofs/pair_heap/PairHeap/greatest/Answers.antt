use Rattle.std.proofs.Common.{◌≡◌, ℕ, ◌<◌, List, Option, Some, None, IfSome}
use Rattle.tier_heap.specs.Entries.{IsGreatest}
use Rattle.tier_heap.specs.EndHeap.{id_at, IsEndHeap}
use Rattle.tier_heap.specs.declared.end_heap.End.TheVariants.{Greatest}
use Rattle.tier_heap.specs.declared.end_heap.EndHeap.{EndHeap}
use Rattle.tier_heap.proofs.EndLemmas.{first_greatest}
use Rattle.tier_heap.proofs.pair_heap.PairHeap.greatest.Goals as goal

-- the first id, where there is one
first_is : (ranks : List (Option ℕ)) (heap : EndHeap) (o : Option ℕ) → IsEndHeap ranks heap → heap.end ≡ Greatest → IfSome o (λ id. (0 < heap.count) × (id ≡ id_at heap 0)) → IfSome o (IsGreatest ranks)
first_is ranks heap None is_heap end first = first
first_is ranks heap (Some id) is_heap end first = first_greatest ranks heap id is_heap end first.0 first.1

pub returns-clause-greatest : goal.returns-clause-greatest
returns-clause-greatest c = let view : c.self.inside.ranks.items ≡ c.args.self.now = c.self.view_is in rw (← view) (first_is _ _ _ c.self.invariant.greatest c.self.invariant.greatest_end c.first.ensures.first)
