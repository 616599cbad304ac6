use Rattle.std.proofs.Common.{◌≡◌, ℕ, ◌+◌, ◌<◌, ◌≤◌, length, List, Option, None, set, ap, arith, IsSome}
use Rattle.std.specs.Prelude.{swap}
use Rattle.tier_heap.specs.Entries.{rank_at}
use Rattle.tier_heap.specs.EndHeap.{id_at, place_of, Lists, IsLoose, IsEndHeap}
use Rattle.tier_heap.specs.declared.end_heap.EndHeap.{EndHeap}
use Rattle.tier_heap.proofs.ExchangeLemmas.{Exchanged, exchanged}
use Rattle.tier_heap.proofs.ChangeLemmas.{Agrees, agrees-set, room, inserted}
use Rattle.tier_heap.specs.Laws.{id_in_range, rank_at-set_same}
use Rattle.tier_heap.proofs.end_heap.EndHeap.insert.Goals as goal

-- there is a place past those of the map
last_in : (ranks : List (Option ℕ)) (heap : EndHeap) (id : ℕ) → IsEndHeap (set ranks id None) heap → IsSome (rank_at ranks id) → heap.count < length heap.order.items
last_in ranks heap id before is_in =
    let agrees : Agrees (set ranks id None) ranks id = agrees-set ranks id None in
    let within : id < length ranks = id_in_range ranks id is_in in
    let within_before : id < length (set ranks id None) = rw agrees.same_length within in
    let high : heap.count ≤ place_of heap id = room _ heap id before.lists within_before (rank_at-set_same ranks id None within) in
    let low : place_of heap id < length heap.order.items = before.lists.index.places id (rw before.lists.all_ids within_before) in
    omega (arith, high, low)

-- the id is listed at the last place, and alone may be out of order
kept : (ranks : List (Option ℕ)) (old new : EndHeap) (id at : ℕ) → IsEndHeap (set ranks id None) old → IsSome (rank_at ranks id) → at ≡ place_of old id
    → new.order.items ≡ swap old.order.items at old.count → new.places.items ≡ swap old.places.items (id_at old at) (id_at old old.count) → new.count ≡ old.count + 1 → new.end ≡ old.end
    → Lists ranks new × IsLoose ranks new old.count
kept ranks old new id at before is_in at_is order places count end =
    let agrees : Agrees (set ranks id None) ranks id = agrees-set ranks id None in
    let within : id < length ranks = id_in_range ranks id is_in in
    let at_in : at < length old.order.items = rw at_is (before.lists.index.places id (rw (before.lists.all_ids, agrees.same_length) within)) in
    let x : Exchanged old new at old.count = exchanged old new at old.count before.lists.index order places at_in (last_in ranks old id before is_in) in
    inserted _ ranks old new id at before agrees (rank_at-set_same ranks id None within) is_in at_is x count end

pub exchange-requires-clause-other : goal.exchange-requires-clause-other
exchange-requires-clause-other c = last_in _ _ _ c.requires.heap c.requires.present

pub settle-requires-clause-lists : goal.settle-requires-clause-lists
settle-requires-clause-lists c =
    let exchange = c.exchange.ensures in
    (kept _ c.args.self.now _ _ _ c.requires.heap c.requires.present c.place-at.ensures exchange.order exchange.places (ap (λ (n : ℕ). n + 1) exchange.count) exchange.end).0

pub settle-requires-clause-loose : goal.settle-requires-clause-loose
settle-requires-clause-loose c =
    let exchange = c.exchange.ensures in
    (kept _ c.args.self.now _ _ _ c.requires.heap c.requires.present c.place-at.ensures exchange.order exchange.places (ap (λ (n : ℕ). n + 1) exchange.count) exchange.end).1
