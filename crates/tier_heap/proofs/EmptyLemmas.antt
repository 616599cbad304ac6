-- The heap of an empty map.
use Rattle.std.proofs.Common.{◌≡◌, ℕ, ◌<◌, ◌^◌, List, Option, None, length, get_or, replicate, is_some, true, arith, sym, ◌∙◌, ap, subst, zero-add}
use Rattle.std.specs.List.{range_with_len}
use Rattle.std.proofs.lemmas.List.{length-replicate}
use Rattle.std.proofs.lemmas.List.FromFn.{length-range_with_len, get_or-range_with_len}
use Rattle.std.proofs.lemmas.Bool.{false≢true}
use Rattle.tier_heap.specs.Laws.{rank_at-replicate}
use Rattle.tier_heap.specs.EndHeap.{id_at, place_of, IsEndHeap}
use Rattle.tier_heap.specs.declared.end_heap.EndHeap.{EndHeap}

-- a heap of no ids, in which each id is at its own place
pub empty_heap : (ids : ℕ) (heap : EndHeap) → ids < 2 ^ 32 → heap.order.items ≡ range_with_len 0 ids → heap.places.items ≡ range_with_len 0 ids → heap.count ≡ 0 → IsEndHeap (replicate ids None) heap
empty_heap ids heap fits order places count =
    let order_length : length heap.order.items ≡ ids = ap length order ∙ length-range_with_len 0 ids in
    let places_length : length heap.places.items ≡ ids = ap length places ∙ length-range_with_len 0 ids in
    let order_at : (k : ℕ) → k < ids → id_at heap k ≡ k = λ k h. ap (λ (l : List ℕ). get_or l k 0) order ∙ get_or-range_with_len 0 ids k 0 h ∙ zero-add k in
    let place_at : (k : ℕ) → k < ids → place_of heap k ≡ k = λ k h. ap (λ (l : List ℕ). get_or l k 0) places ∙ get_or-range_with_len 0 ids k 0 h ∙ zero-add k in
    record {
      lists = record {
        index = record {
          same_length = places_length ∙ sym order_length;
          fits = rw order_length fits;
          counted = rw count (omega arith);
          ids = λ k h. rw (order_at k (rw order_length at h)) h;
          places = λ k h. rw (place_at k (rw order_length at h)) h;
          place_at = λ k h. ap (place_of heap) (order_at k (rw order_length at h)) ∙ place_at k (rw order_length at h);
          id_in = λ k h. ap (id_at heap) (place_at k (rw order_length at h)) ∙ order_at k (rw order_length at h);
        };
        all_ids = order_length ∙ sym (length-replicate ids None);
        ranked = λ id within low. absurd (omega (arith, low, count));
        placed = λ id within some. absurd (false≢true (subst (λ (o : Option ℕ). is_some o ≡ true) (rank_at-replicate ids id) some));
      };
      ordered = record { behind = λ p c pc. absurd (omega (arith, pc.counted, count)) };
    }
