-- The first id of each heap is an end of the map.
use Rattle.std.proofs.Common.{◌≡◌, ℕ, ◌<◌, false, List, Option, Some, None, length, IsSome, unwrap_or, arith, sym, ap, subst, refl}
use Rattle.std.proofs.lemmas.Bool.{false≢true}
use Rattle.tier_heap.specs.Entries.{rank_at, is_above, IsGreatest, IsLeast}
use Rattle.tier_heap.specs.Laws.{id_in_range, above_from_not_below}
use Rattle.tier_heap.specs.EndHeap.{entry_of, is_ahead, id_at, place_of, IsBehind, IsEndHeap}
use Rattle.tier_heap.specs.declared.end_heap.End.TheVariants.{Greatest, Least}
use Rattle.tier_heap.specs.declared.end_heap.EndHeap.{EndHeap}
use Rattle.tier_heap.proofs.SiftLemmas.{first_ahead}

-- the value in a `Some`
pub rank_from_some : (o : Option ℕ) → IsSome o → (rank : ℕ) × (o ≡ Some rank)
rank_from_some (Some rank) h = (rank, refl)
rank_from_some None h = absurd (false≢true h)

-- the id of an entry comes no sooner than the first id
none_sooner : (ranks : List (Option ℕ)) (heap : EndHeap) (id other other_rank : ℕ) → IsEndHeap ranks heap → id ≡ id_at heap 0 → rank_at ranks other ≡ Some other_rank
    → is_ahead heap.end ranks other id ≡ false
none_sooner ranks heap id other other_rank is_heap id_is other_in =
    let lists = is_heap.lists in
    let some : IsSome (rank_at ranks other) = rw other_in refl in
    let within : other < length ranks = id_in_range ranks other some in
    let at_other : id_at heap (place_of heap other) ≡ other = lists.index.id_in other (rw lists.all_ids within) in
    let first : IsBehind ranks heap (place_of heap other) 0 = first_ahead ranks heap is_heap.ordered (place_of heap other) (lists.placed other within some) in
    rw (id_is, ← at_other) first

first_ranked : (ranks : List (Option ℕ)) (heap : EndHeap) (id : ℕ) → IsEndHeap ranks heap → 0 < heap.count → id ≡ id_at heap 0 → (rank : ℕ) × (rank_at ranks id ≡ Some rank)
first_ranked ranks heap id is_heap some id_is =
    let lists = is_heap.lists in
    let zero_in : 0 < length heap.order.items = omega (arith, some, lists.index.counted) in
    rank_from_some _ (rw id_is (lists.ranked (id_at heap 0) (rw (← lists.all_ids) (lists.index.ids 0 zero_in)) (rw (lists.index.place_at 0 zero_in) some)))

pub entry_is : (ranks : List (Option ℕ)) (id rank : ℕ) → rank_at ranks id ≡ Some rank → entry_of ranks id ≡ (id, rank)
entry_is ranks id rank e = let entry : Option ℕ → ℕ × ℕ = λ o. (id, unwrap_or o 0) in ap entry e

pub above_along : (a a' b b' : ℕ × ℕ) → a ≡ a' → b ≡ b' → is_above a b ≡ false → is_above a' b' ≡ false
above_along a a' b b' ea eb h = subst (λ (e : ℕ × ℕ). is_above a' e ≡ false) eb (subst (λ (e : ℕ × ℕ). is_above e b ≡ false) ea h)

-- the first id of the heap from the greatest end is the greatest
pub first_greatest : (ranks : List (Option ℕ)) (heap : EndHeap) (id : ℕ) → IsEndHeap ranks heap → heap.end ≡ Greatest → 0 < heap.count → id ≡ id_at heap 0 → IsGreatest ranks id
unfolding is_ahead
first_greatest ranks heap id is_heap end some id_is =
    let entry = first_ranked ranks heap id is_heap some id_is in
    record {
      rank = entry.0;
      entry = entry.1;
      above = λ other other_rank other_in ne.
          let sooner : is_ahead Greatest ranks other id ≡ false = rw end at (none_sooner ranks heap id other other_rank is_heap id_is other_in) in
          let below : is_above (other, other_rank) (id, entry.0) ≡ false = above_along _ _ _ _ (entry_is ranks other other_rank other_in) (entry_is ranks id entry.0 entry.1) sooner in
          above_from_not_below (id, entry.0) (other, other_rank) (λ e. ne (sym e)) below;
    }

-- the first id of the heap from the least end is the least
pub first_least : (ranks : List (Option ℕ)) (heap : EndHeap) (id : ℕ) → IsEndHeap ranks heap → heap.end ≡ Least → 0 < heap.count → id ≡ id_at heap 0 → IsLeast ranks id
unfolding is_ahead
first_least ranks heap id is_heap end some id_is =
    let entry = first_ranked ranks heap id is_heap some id_is in
    record {
      rank = entry.0;
      entry = entry.1;
      below = λ other other_rank other_in ne.
          let sooner : is_ahead Least ranks other id ≡ false = rw end at (none_sooner ranks heap id other other_rank is_heap id_is other_in) in
          let above : is_above (id, entry.0) (other, other_rank) ≡ false = above_along _ _ _ _ (entry_is ranks id entry.0 entry.1) (entry_is ranks other other_rank other_in) sooner in
          above_from_not_below (other, other_rank) (id, entry.0) ne above;
    }
