use Rattle.std.proofs.Common.{◌≡◌, ℕ, ◌<◌, List, Option, Some, None, IfSome}
use Rattle.tier_heap.specs.Entries.{IsLeast}
use Rattle.tier_heap.specs.EndHeap.{id_at, IsEndHeap}
use Rattle.tier_heap.specs.declared.end_heap.End.TheVariants.{Least}
use Rattle.tier_heap.specs.declared.end_heap.EndHeap.{EndHeap}
use Rattle.tier_heap.proofs.EndLemmas.{first_least}
use Rattle.tier_heap.proofs.pair_heap.PairHeap.least.Goals as goal

-- the first id, where there is one
first_is : (ranks : List (Option ℕ)) (heap : EndHeap) (o : Option ℕ) → IsEndHeap ranks heap → heap.end ≡ Least → IfSome o (λ id. (0 < heap.count) × (id ≡ id_at heap 0)) → IfSome o (IsLeast ranks)
first_is ranks heap None is_heap end first = first
first_is ranks heap (Some id) is_heap end first = first_least ranks heap id is_heap end first.0 first.1

pub returns-clause-least : goal.returns-clause-least
returns-clause-least c = let view : c.self.inside.ranks.items ≡ c.args.self.now = c.self.view_is in rw (← view) (first_is _ _ _ c.self.invariant.least c.self.invariant.least_end c.first.ensures.first)
