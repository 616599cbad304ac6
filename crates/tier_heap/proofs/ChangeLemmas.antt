-- What a heap keeps when an id comes into the map, gets another rank, or leaves it.
use Rattle.std.proofs.Common.{◌≡◌, ◌≢◌, ℕ, ◌+◌, ◌<◌, ◌≤◌, true, List, Option, Some, None, length, set, is_some, IsSome, unwrap_or, arith, sym, ◌∙◌, ap, subst, inl, inr, ⊎_elim, ◌⊎◌, refl, length-set}
use Rattle.std.proofs.lemmas.List.{set-set, set-get_or}
use Rattle.std.proofs.lemmas.Bool.{cases_eq, cases_lt, false≢true}
use Rattle.tier_heap.specs.Entries.{rank_at, is_above}
use Rattle.tier_heap.specs.Laws.{id_in_range, rank_at-set_same, rank_at-set_other}
use Rattle.tier_heap.specs.EndHeap.{entry_of, is_ahead, id_at, place_of, IsIndex, Lists, IsBehind, IsOrdered, IsLoose, IsEndHeap}
use Rattle.tier_heap.specs.declared.end_heap.End.{End}
use Rattle.tier_heap.specs.declared.end_heap.End.TheVariants.{Greatest, Least}
use Rattle.tier_heap.specs.declared.end_heap.EndHeap.{EndHeap}
use Rattle.tier_heap.proofs.OrderLemmas.{behind_trans}
use Rattle.tier_heap.proofs.ExchangeLemmas.{Exchanged, index_kept}

-- two maps agree at all ids but one
pub record Agrees (before ranks : List (Option ℕ)) (id : ℕ) : Type 0 where
  pub same_length : length before ≡ length ranks
  pub others : (other : ℕ) → other ≢ id → rank_at before other ≡ rank_at ranks other

pub agrees-set : (ranks : List (Option ℕ)) (id : ℕ) (o : Option ℕ) → Agrees (set ranks id o) ranks id
agrees-set ranks id o = record { same_length = length-set ranks id o; others = λ other ne. rank_at-set_other ranks id other o ne }

-- a heap of a map is one of the map that a change and its opposite give
pub put_back : (ranks after : List (Option ℕ)) (heap : EndHeap) (id : ℕ) (o o' : Option ℕ) → after ≡ set ranks id o → rank_at ranks id ≡ o' → IsEndHeap ranks heap → IsEndHeap (set after id o') heap
put_back ranks after heap id o o' after_is was is_heap =
    let same : set after id o' ≡ ranks = ap (λ (l : List (Option ℕ)). set l id o') after_is ∙ set-set ranks id o o' ∙ ap (set ranks id) (sym was) ∙ set-get_or ranks id None in
    rw same is_heap

-- an id that was set to a rank is in the map
pub some_set : (ranks : List (Option ℕ)) (id rank : ℕ) → id < length ranks → IsSome (rank_at (set ranks id (Some rank)) id)
some_set ranks id rank within = rw (rank_at-set_same ranks id (Some rank) within) refl

entry_same : (before ranks : List (Option ℕ)) (x : ℕ) → rank_at before x ≡ rank_at ranks x → entry_of before x ≡ entry_of ranks x
entry_same before ranks x e = let entry : Option ℕ → ℕ × ℕ = λ o. (x, unwrap_or o 0) in ap entry e

-- the order of two ids is the same where their ranks are
ahead_same : (end : End) (before ranks : List (Option ℕ)) (x y : ℕ) → entry_of before x ≡ entry_of ranks x → entry_of before y ≡ entry_of ranks y → is_ahead end before x y ≡ is_ahead end ranks x y
unfolding is_ahead
ahead_same Greatest before ranks x y ex ey = ap (λ (e : ℕ × ℕ). is_above e (entry_of before y)) ex ∙ ap (λ (e : ℕ × ℕ). is_above (entry_of ranks x) e) ey
ahead_same Least before ranks x y ex ey = ap (λ (e : ℕ × ℕ). is_above e (entry_of before x)) ey ∙ ap (λ (e : ℕ × ℕ). is_above (entry_of ranks y) e) ex

-- a place keeps its id, and the id its rank
pub record Stays (before ranks : List (Option ℕ)) (old new : EndHeap) (place : ℕ) : Type 0 where
  pub same_id : id_at new place ≡ id_at old place
  pub same_rank : rank_at before (id_at old place) ≡ rank_at ranks (id_at old place)
  pub counted : place < old.count

behind_stays : (before ranks : List (Option ℕ)) (old new : EndHeap) (c p : ℕ) → new.end ≡ old.end → Stays before ranks old new c → Stays before ranks old new p → IsBehind before old c p → IsBehind ranks new c p
behind_stays before ranks old new c p end c_stays p_stays behind =
    rw (end, c_stays.same_id, p_stays.same_id)
    (sym (ahead_same old.end before ranks _ _ (entry_same before ranks _ c_stays.same_rank) (entry_same before ranks _ p_stays.same_rank)) ∙ behind)

-- where all stays but for one place, that place alone may be out of order
pub loosened : (before ranks : List (Option ℕ)) (old new : EndHeap) (at : ℕ) → IsOrdered before old → new.end ≡ old.end
    → ((k : ℕ) → k < new.count → k ≢ at → Stays before ranks old new k) → ((c : ℕ) → at < c → c < new.count → at < old.count) → IsLoose ranks new at
loosened before ranks old new at ordered end stays inside =
    record {
      behind = λ p c pc p_at c_at.
          let p_stays : Stays before ranks old new p = stays p (omega (arith, pc.first, pc.counted)) p_at in
          let c_stays : Stays before ranks old new c = stays c pc.counted c_at in
          behind_stays before ranks old new c p end c_stays p_stays
          (ordered.behind p c (record { first = pc.first; second = pc.second; counted = c_stays.counted }));
      across = λ p c pa ac.
          let p_stays : Stays before ranks old new p = stays p (omega (arith, pa.first, pa.counted)) (omega (arith, pa.first)) in
          let c_stays : Stays before ranks old new c = stays c ac.counted (omega (arith, ac.first)) in
          behind_stays before ranks old new c p end c_stays p_stays
          (behind_trans old.end before _ _ _
          (ordered.behind p at (record { first = pa.first; second = pa.second; counted = inside c (omega (arith, ac.first)) ac.counted }))
          (ordered.behind at c (record { first = ac.first; second = ac.second; counted = c_stays.counted })));
    }

is_some_along : (o o' : Option ℕ) → o ≡ o' → IsSome o → IsSome o'
is_some_along o o' e h = subst (λ (v : Option ℕ). is_some v ≡ true) e h

-- a place that isn't an id's has another id
not_there : (heap : EndHeap) → IsIndex heap → (id k : ℕ) → k < length heap.order.items → k ≢ place_of heap id → id_at heap k ≢ id
not_there heap index id k k_in ne e = ne (sym (index.place_at k k_in) ∙ ap (place_of heap) e)

-- an id that isn't at a place has another one
not_its_place : (heap : EndHeap) → IsIndex heap → (id k at : ℕ) → id < length heap.order.items → k < length heap.order.items → k ≢ id → at ≡ place_of heap id → place_of heap k ≢ at
not_its_place heap index id k at id_in k_in ne at_is e = ne (sym (index.id_in k k_in) ∙ ap (id_at heap) (e ∙ at_is) ∙ index.id_in id id_in)

-- where an id is after an exchange
place_after : (old new : EndHeap) (a b k : ℕ) → IsIndex old → Exchanged old new a b → a < length old.order.items → b < length old.order.items → k < length old.order.items → place_of old k ≢ a
    → ((place_of old k ≡ b) × (place_of new k ≡ a)) ⊎ ((place_of old k ≢ b) × (place_of new k ≡ place_of old k))
place_after old new a b k index x a_in b_in k_in ne_a =
    ⊎_elim
    (λ (e : place_of old k ≡ b).
    let k_is : k ≡ id_at old b = sym (index.id_in k k_in) ∙ ap (id_at old) e in
    inl (e, ap (place_of new) k_is ∙ x.places.1 ∙ index.place_at a a_in))
    (λ (ne_b : place_of old k ≢ b).
    inr (ne_b, x.places.2 k (λ (e : k ≡ id_at old a). ne_a (ap (place_of old) e ∙ index.place_at a a_in)) (λ (e : k ≡ id_at old b). ne_b (ap (place_of old) e ∙ index.place_at b b_in))))
    (cases_eq (place_of old k) b)

-- the ids of the map are listed, where one id has come or gone and the others have kept to their side of the count
lists_after : (before ranks : List (Option ℕ)) (old new : EndHeap) (id : ℕ) → Lists before old → Agrees before ranks id → IsIndex new → length new.order.items ≡ length old.order.items
    → (place_of new id < new.count → IsSome (rank_at ranks id)) → (IsSome (rank_at ranks id) → place_of new id < new.count)
    → ((k : ℕ) → k < length old.order.items → k ≢ id → (place_of new k < new.count → place_of old k < old.count) × (place_of old k < old.count → place_of new k < new.count)) → Lists ranks new
lists_after before ranks old new id lists agrees index same_length id_ranked id_placed others =
    record {
      index = index;
      all_ids = same_length ∙ lists.all_ids ∙ agrees.same_length;
      ranked = λ k k_in low. ⊎_elim
          (λ (e : k ≡ id). is_some_along _ _ (ap (rank_at ranks) (sym e)) (id_ranked (subst (λ (x : ℕ). place_of new x < new.count) e low)))
          (λ (ne : k ≢ id). is_some_along _ _ (agrees.others k ne)
          (lists.ranked k (rw agrees.same_length k_in) ((others k (rw (lists.all_ids, agrees.same_length) k_in) ne).0 low)))
          (cases_eq k id);
      placed = λ k k_in some. ⊎_elim
          (λ (e : k ≡ id). subst (λ (x : ℕ). place_of new x < new.count) (sym e) (id_placed (is_some_along _ _ (ap (rank_at ranks) e) some)))
          (λ (ne : k ≢ id). (others k (rw (lists.all_ids, agrees.same_length) k_in) ne).1
          (lists.placed k (rw agrees.same_length k_in) (is_some_along _ _ (sym (agrees.others k ne)) some)))
          (cases_eq k id);
    }

-- an id of the map that has got another rank is still listed, and alone may be out of order
pub changed : (before ranks : List (Option ℕ)) (heap : EndHeap) (id : ℕ) → IsEndHeap before heap → Agrees before ranks id → IsSome (rank_at before id) → IsSome (rank_at ranks id)
    → Lists ranks heap × (place_of heap id < heap.count) × IsLoose ranks heap (place_of heap id)
changed before ranks heap id is_heap agrees was_in is_in =
    let lists = is_heap.lists in
    let at_in : place_of heap id < heap.count = lists.placed id (id_in_range before id was_in) was_in in (
      lists_after before ranks heap heap id lists agrees lists.index refl (λ _. is_in) (λ _. at_in) (λ k k_in ne. (λ low. low, λ low. low)),
      at_in,
      loosened before ranks heap heap (place_of heap id) is_heap.ordered refl
          (λ k k_in k_at. record {
            same_id = refl;
            same_rank = agrees.others (id_at heap k) (not_there heap lists.index id k (omega (arith, lists.index.counted)) k_at);
            counted = k_in;
          })
          (λ _ _ _. at_in),
    )

-- an id that isn't in the map is past the ids of the map
pub room : (before : List (Option ℕ)) (heap : EndHeap) (id : ℕ) → Lists before heap → id < length before → rank_at before id ≡ None → heap.count ≤ place_of heap id
room before heap id lists within absent =
    ⊎_elim
    (λ (low : place_of heap id < heap.count). absurd (false≢true (subst (λ (o : Option ℕ). is_some o ≡ true) absent (lists.ranked id within low))))
    (λ (high : heap.count ≤ place_of heap id). high)
    (cases_lt (place_of heap id) heap.count)

-- an id that has come into the map is listed at the last place, and alone may be out of order
pub inserted : (before ranks : List (Option ℕ)) (old new : EndHeap) (id at : ℕ) → IsEndHeap before old → Agrees before ranks id → rank_at before id ≡ None → IsSome (rank_at ranks id)
    → at ≡ place_of old id → Exchanged old new at old.count → new.count ≡ old.count + 1 → new.end ≡ old.end → Lists ranks new × IsLoose ranks new old.count
inserted before ranks old new id at is_heap agrees absent is_in at_is x count end =
    let lists = is_heap.lists in
    let index = lists.index in
    let last = old.count in
    let id_before : id < length before = rw agrees.same_length (id_in_range ranks id is_in) in
    let id_in : id < length old.order.items = rw lists.all_ids id_before in
    let high : last ≤ place_of old id = room before old id lists id_before absent in
    let at_in : at < length old.order.items = rw at_is (index.places id id_in) in
    let last_in : last < length old.order.items = omega (arith, high, at_is, at_in) in
    let id_now : place_of new id ≡ last = ap (place_of new) (sym (index.id_in id id_in) ∙ ap (id_at old) (sym at_is)) ∙ x.places.0 ∙ index.place_at last last_in in
    let id_counted : place_of new id < new.count = omega (arith, id_now, count) in (
      lists_after before ranks old new id lists agrees (index_kept old new at last index x at_in last_in (omega (arith, count, last_in))) x.order_length (λ _. is_in) (λ _. id_counted)
          (λ k k_in ne.
          let ne_at : place_of old k ≢ at = not_its_place old index id k at id_in k_in ne at_is in
          ⊎_elim
          (λ (m : (place_of old k ≡ last) × (place_of new k ≡ at)). (λ low. absurd (omega (arith, m.0, m.1, low, count, high, at_is, ne_at)), λ low. absurd (omega (arith, m.0, low))))
          (λ (m : (place_of old k ≢ last) × (place_of new k ≡ place_of old k)). (λ low. omega (arith, m.0, m.1, low, count), λ low. omega (arith, m.1, low, count)))
          (place_after old new at last k index x at_in last_in k_in ne_at)),
      loosened before ranks old new last is_heap.ordered end
          (λ k k_in k_last.
          let low : k < last = omega (arith, k_in, k_last, count) in
          let k_at : k ≢ at = omega (arith, low, high, at_is) in
          record {
            same_id = x.order.2 k k_at k_last;
            same_rank = agrees.others (id_at old k) (not_there old index id k (omega (arith, low, last_in)) (omega (arith, low, high)));
            counted = low;
          })
          (λ c past c_in. absurd (omega (arith, past, c_in, count))),
    )

-- where an id has left the map, the last id is listed at its place, and alone may be out of order
pub removed : (before ranks : List (Option ℕ)) (old new : EndHeap) (id at : ℕ) → IsEndHeap before old → Agrees before ranks id → IsSome (rank_at before id) → rank_at ranks id ≡ None
    → at ≡ place_of old id → Exchanged old new at new.count → new.count + 1 ≡ old.count → new.end ≡ old.end → Lists ranks new × IsLoose ranks new at
removed before ranks old new id at is_heap agrees was_in absent at_is x count end =
    let lists = is_heap.lists in
    let index = lists.index in
    let last = new.count in
    let id_before : id < length before = id_in_range before id was_in in
    let id_in : id < length old.order.items = rw lists.all_ids id_before in
    let low_at : place_of old id < old.count = lists.placed id id_before was_in in
    let at_in : at < length old.order.items = rw at_is (index.places id id_in) in
    let last_in : last < length old.order.items = omega (arith, count, index.counted) in
    let id_now : place_of new id ≡ last = ap (place_of new) (sym (index.id_in id id_in) ∙ ap (id_at old) (sym at_is)) ∙ x.places.0 ∙ index.place_at last last_in in (
      lists_after before ranks old new id lists agrees (index_kept old new at last index x at_in last_in (omega (arith, last_in))) x.order_length
          (λ low. absurd (omega (arith, low, id_now)))
          (λ some. absurd (false≢true (subst (λ (o : Option ℕ). is_some o ≡ true) absent some)))
          (λ k k_in ne.
          let ne_at : place_of old k ≢ at = not_its_place old index id k at id_in k_in ne at_is in
          ⊎_elim
          (λ (m : (place_of old k ≡ last) × (place_of new k ≡ at)). (λ low. omega (arith, m.0, count), λ low. omega (arith, m.0, m.1, ne_at, at_is, low_at, count)))
          (λ (m : (place_of old k ≢ last) × (place_of new k ≡ place_of old k)). (λ low. omega (arith, m.1, low, count), λ low. omega (arith, m.0, m.1, low, count)))
          (place_after old new at last k index x at_in last_in k_in ne_at)),
      loosened before ranks old new at is_heap.ordered end
          (λ k k_in k_at. record {
            same_id = x.order.2 k k_at (omega (arith, k_in));
            same_rank = agrees.others (id_at old k) (not_there old index id k (omega (arith, k_in, last_in)) (λ (e : k ≡ place_of old id). k_at (e ∙ sym at_is)));
            counted = omega (arith, k_in, count);
          })
          (λ _ _ _. omega (arith, at_is, low_at)),
    )

-- with no more places than its own, nothing is out of order
pub ordered_short : (ranks : List (Option ℕ)) (heap : EndHeap) (at : ℕ) → heap.count ≤ at → IsLoose ranks heap at → IsOrdered ranks heap
ordered_short ranks heap at short loose =
    record { behind = λ p c pc. loose.behind p c pc (omega (arith, pc.first, pc.counted, short)) (omega (arith, pc.counted, short)) }
