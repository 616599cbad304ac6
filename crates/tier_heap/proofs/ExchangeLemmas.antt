-- What an exchange of two places keeps.
use Rattle.std.proofs.Common.{◌≡◌, ◌≢◌, ℕ, ◌<◌, ◌≤◌, ◌^◌, List, Option, length, swap, arith, sym, ◌∙◌, ap, subst, ⊎_elim}
use Rattle.std.proofs.lemmas.List.Edits.{Swapped, swapped_from_swap, length-swap}
use Rattle.std.proofs.lemmas.Bool.{cases_eq}
use Rattle.tier_heap.specs.EndHeap.{id_at, place_of, IsIndex, Lists, Exchanges}
use Rattle.tier_heap.specs.declared.end_heap.EndHeap.{EndHeap}

-- an exchange, with each place and id as the function that the lists give
pub record Exchanged (old new : EndHeap) (a b : ℕ) : Type 0 where
  pub order_length : length new.order.items ≡ length old.order.items
  pub places_length : length new.places.items ≡ length old.places.items
  pub order : Swapped (id_at old) (id_at new) a b
  pub places : Swapped (place_of old) (place_of new) (id_at old a) (id_at old b)

pub exchanged : (old new : EndHeap) (a b : ℕ) → IsIndex old → new.order.items ≡ swap old.order.items a b → new.places.items ≡ swap old.places.items (id_at old a) (id_at old b)
    → a < length old.order.items → b < length old.order.items → Exchanged old new a b
exchanged old new a b index order places a_in b_in =
    record {
      order_length = ap length order ∙ length-swap _ _ _;
      places_length = ap length places ∙ length-swap _ _ _;
      order = swapped_from_swap _ _ a b 0 a_in b_in order;
      places = swapped_from_swap _ _ (id_at old a) (id_at old b) 0
          (subst (λ (n : ℕ). id_at old a < n) (sym index.same_length) (index.ids a a_in))
          (subst (λ (n : ℕ). id_at old b < n) (sym index.same_length) (index.ids b b_in)) places;
    }

-- of two lists of which one is the other's inverse, after an exchange
inverse_kept : (n : ℕ) (f g f' g' : ℕ → ℕ) (a b : ℕ) → a < n → b < n → Swapped f f' a b → Swapped g g' (f a) (f b)
    → ((k : ℕ) → k < n → g (f k) ≡ k) → (k : ℕ) → k < n → g' (f' k) ≡ k
inverse_kept n f g f' g' a b a_in b_in fs gs inv k k_in =
    let at_a : g (f a) ≡ a = inv a a_in in
    let at_b : g (f b) ≡ b = inv b b_in in
    let at_k : g (f k) ≡ k = inv k k_in in
    ⊎_elim
    (λ (e : k ≡ a). subst (λ (m : ℕ). g' (f' m) ≡ m) (sym e) (ap g' fs.0 ∙ gs.1 ∙ at_a))
    (λ (ne_a : k ≢ a). ⊎_elim
    (λ (e : k ≡ b). subst (λ (m : ℕ). g' (f' m) ≡ m) (sym e) (ap g' fs.1 ∙ gs.0 ∙ at_b))
    (λ (ne_b : k ≢ b).
    ap g' (fs.2 k ne_a ne_b)
    ∙ gs.2 (f k) (λ (e : f k ≡ f a). ne_a (sym at_k ∙ ap g e ∙ at_a)) (λ (e : f k ≡ f b). ne_b (sym at_k ∙ ap g e ∙ at_b))
    ∙ at_k)
    (cases_eq k b))
    (cases_eq k a)

-- a bound that holds before an exchange holds after it
pub below_kept : (n : ℕ) (f f' : ℕ → ℕ) (a b : ℕ) → Swapped f f' a b → f a < n → f b < n → (k : ℕ) → f k < n → f' k < n
below_kept n f f' a b fs a_in b_in k k_in =
    ⊎_elim
    (λ (e : k ≡ a). subst (λ (m : ℕ). m < n) (sym (ap f' e ∙ fs.0)) b_in)
    (λ (ne_a : k ≢ a). ⊎_elim
    (λ (e : k ≡ b). subst (λ (m : ℕ). m < n) (sym (ap f' e ∙ fs.1)) a_in)
    (λ (ne_b : k ≢ b). subst (λ (m : ℕ). m < n) (sym (fs.2 k ne_a ne_b)) k_in)
    (cases_eq k b))
    (cases_eq k a)

swapped_back : (f f' : ℕ → ℕ) (a b : ℕ) → Swapped f f' a b → Swapped f' f a b
swapped_back f f' a b fs = (sym fs.1, sym fs.0, λ m ne_a ne_b. sym (fs.2 m ne_a ne_b))

-- an index of a length that is known
index_of_length : (heap : EndHeap) (n : ℕ) → length heap.order.items ≡ n → length heap.places.items ≡ n → n < 2 ^ 32 → heap.count ≤ n
    → ((k : ℕ) → k < n → id_at heap k < n) → ((k : ℕ) → k < n → place_of heap k < n)
    → ((k : ℕ) → k < n → place_of heap (id_at heap k) ≡ k) → ((k : ℕ) → k < n → id_at heap (place_of heap k) ≡ k) → IsIndex heap
index_of_length heap n order_length places_length fits counted ids places place_at id_in =
    record {
      same_length = places_length ∙ sym order_length;
      fits = rw order_length fits;
      counted = rw order_length counted;
      ids = λ k h. rw order_length (ids k (rw order_length at h));
      places = λ k h. rw order_length (places k (rw order_length at h));
      place_at = λ k h. place_at k (rw order_length at h);
      id_in = λ k h. id_in k (rw order_length at h);
    }

-- an exchange leaves an index an index
pub index_kept : (old new : EndHeap) (a b : ℕ) → IsIndex old → Exchanged old new a b → a < length old.order.items → b < length old.order.items → new.count ≤ length old.order.items → IsIndex new
index_kept old new a b index x a_in b_in counted =
    let n = length old.order.items in
    let a_at : place_of old (id_at old a) ≡ a = index.place_at a a_in in
    let b_at : place_of old (id_at old b) ≡ b = index.place_at b b_in in
    let order_back : Swapped (id_at old) (id_at new) (place_of old (id_at old a)) (place_of old (id_at old b)) = rw (a_at, b_at) x.order in
    index_of_length new n x.order_length (x.places_length ∙ index.same_length) index.fits counted
    (λ k h. below_kept n (id_at old) (id_at new) a b x.order (index.ids a a_in) (index.ids b b_in) k (index.ids k h))
    (λ k h. below_kept n (place_of old) (place_of new) (id_at old a) (id_at old b) x.places (index.places _ (index.ids a a_in)) (index.places _ (index.ids b b_in)) k (index.places k h))
    (inverse_kept n (id_at old) (place_of old) (id_at new) (place_of new) a b a_in b_in x.order x.places index.place_at)
    (inverse_kept n (place_of old) (id_at old) (place_of new) (id_at new) (id_at old a) (id_at old b) (index.ids a a_in) (index.ids b b_in) x.places order_back index.id_in)

-- an exchange of two of the first places leaves the same ids there
pub lists_kept : (ranks : List (Option ℕ)) (old new : EndHeap) (a b : ℕ) → Lists ranks old → Exchanges old new a b → a < old.count → b < old.count → Lists ranks new
lists_kept ranks old new a b lists e a_in b_in =
    let index = lists.index in
    let a_low : a < length old.order.items = omega (arith, index.counted) in
    let b_low : b < length old.order.items = omega (arith, index.counted) in
    let x : Exchanged old new a b = exchanged old new a b index e.order e.places a_low b_low in
    let a_at : place_of old (id_at old a) < old.count = rw (index.place_at a a_low) a_in in
    let b_at : place_of old (id_at old b) < old.count = rw (index.place_at b b_low) b_in in
    let a_new : place_of new (id_at old a) < old.count = rw x.places.0 b_at in
    let b_new : place_of new (id_at old b) < old.count = rw x.places.1 a_at in
    record {
      index = index_kept old new a b index x a_low b_low (rw e.count index.counted);
      all_ids = x.order_length ∙ lists.all_ids;
      ranked = λ id id_in h. lists.ranked id id_in
          (below_kept old.count (place_of new) (place_of old) (id_at old a) (id_at old b) (swapped_back (place_of old) (place_of new) _ _ x.places) a_new b_new id (rw e.count at h));
      placed = λ id id_in h. rw e.count
          (below_kept old.count (place_of old) (place_of new) (id_at old a) (id_at old b) x.places a_at b_at id (lists.placed id id_in h));
    }
