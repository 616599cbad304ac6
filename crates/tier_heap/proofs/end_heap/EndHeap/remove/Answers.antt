use Rattle.std.proofs.Common.{◌≡◌, ℕ, ◌-◌, ◌<◌, length, List, Option, Some, None, set, sym, subst, arith, IsSome}
use Rattle.std.specs.Prelude.{swap}
use Rattle.tier_heap.specs.Entries.{rank_at}
use Rattle.tier_heap.specs.EndHeap.{id_at, place_of, Lists, IsLoose, IsEndHeap}
use Rattle.tier_heap.specs.declared.end_heap.EndHeap.{EndHeap}
use Rattle.tier_heap.proofs.ExchangeLemmas.{Exchanged, exchanged}
use Rattle.tier_heap.proofs.ChangeLemmas.{Agrees, agrees-set, some_set, removed, ordered_short}
use Rattle.tier_heap.proofs.end_heap.EndHeap.remove.Goals as goal

-- the last id is listed at the place of the id that left, and alone may be out of order
kept : (ranks : List (Option ℕ)) (old new : EndHeap) (id at : ℕ) → (rank : ℕ) × IsEndHeap (set ranks id (Some rank)) old → id < length ranks → rank_at ranks id ≡ None → at ≡ place_of old id
    → new.order.items ≡ swap old.order.items at (old.count - 1) → new.places.items ≡ swap old.places.items (id_at old at) (id_at old (old.count - 1)) → new.count ≡ old.count - 1 → new.end ≡ old.end
    → Lists ranks new × IsLoose ranks new at
kept ranks old new id at before within absent at_is order places count end =
    let agrees : Agrees (set ranks id (Some before.0)) ranks id = agrees-set ranks id (Some before.0) in
    let was_in : IsSome (rank_at (set ranks id (Some before.0)) id) = some_set ranks id before.0 within in
    let within_before : id < length (set ranks id (Some before.0)) = rw agrees.same_length within in
    let index = before.1.lists.index in
    let low : place_of old id < old.count = before.1.lists.placed id within_before was_in in
    let at_in : at < length old.order.items = omega (arith, at_is, low, index.counted) in
    let x : Exchanged old new at (old.count - 1) = exchanged old new at (old.count - 1) index order places at_in (omega (arith, low, index.counted)) in
    removed _ ranks old new id at before.1 agrees was_in absent at_is (subst (λ (n : ℕ). Exchanged old new at n) (sym count) x) (omega (arith, count, low)) end

pub settle-requires-clause-lists : goal.settle-requires-clause-lists
settle-requires-clause-lists c =
    let exchange = c.exchange.ensures in
    (kept _ c.args.self.now _ _ _ c.requires.heap c.requires.bound c.requires.absent c.place-at.ensures exchange.order exchange.places exchange.count exchange.end).0

pub settle-requires-clause-loose : goal.settle-requires-clause-loose
settle-requires-clause-loose c =
    let exchange = c.exchange.ensures in
    (kept _ c.args.self.now _ _ _ c.requires.heap c.requires.bound c.requires.absent c.place-at.ensures exchange.order exchange.places exchange.count exchange.end).1

pub returns-else-at-self-clause-heap : goal.returns-else-at-self-clause-heap
returns-else-at-self-clause-heap c =
    let exchange = c.exchange.ensures in
    let now = kept _ c.args.self.now c.exchange.new.self _ _ c.requires.heap c.requires.bound c.requires.absent c.place-at.ensures exchange.order exchange.places exchange.count exchange.end in
    record { lists = now.0; ordered = ordered_short _ _ _ c.if-at-self.false now.1 }
