-- What one end's heap keeps of a map: which ids it lists, in which order, and each id's place.
use Rattle.std.specs.Prelude.{◌≡◌, ◌≢◌, ℕ, ◌+◌, ◌*◌, ◌^◌, ◌<◌, ◌≤◌, Bool, true, false, List, Option, length, slice_index, swap, IsSome, unwrap_or}
use Rattle.tier_heap.specs.Entries.{rank_at, is_above}
use Rattle.tier_heap.specs.declared.end_heap.End.{End}
use Rattle.tier_heap.specs.declared.end_heap.End.TheVariants.{Greatest, Least}
use Rattle.tier_heap.specs.declared.end_heap.EndHeap.{EndHeap}

-- an id with its rank, or with 0 where it isn't in the map
abbrev pub entry_of : List (Option ℕ) → ℕ → ℕ × ℕ
entry_of ranks id = (id, unwrap_or (rank_at ranks id) 0)

-- whether one id comes before another at an end
unfoldable pub is_ahead : End → List (Option ℕ) → ℕ → ℕ → Bool
is_ahead Greatest ranks id other = is_above (entry_of ranks id) (entry_of ranks other)
is_ahead Least ranks id other = is_above (entry_of ranks other) (entry_of ranks id)

-- the id at a place
abbrev pub id_at : EndHeap → ℕ → ℕ
id_at heap place = slice_index heap.order.items place

-- the place of an id
abbrev pub place_of : EndHeap → ℕ → ℕ
place_of heap id = slice_index heap.places.items id

-- the order lists each id once, and the places are its inverse
pub record IsIndex (heap : EndHeap) : Type 0 where
  pub same_length : length heap.places.items ≡ length heap.order.items
  pub fits : length heap.order.items < 2 ^ 32
  pub counted : heap.count ≤ length heap.order.items
  pub ids : (place : ℕ) → place < length heap.order.items → id_at heap place < length heap.order.items
  pub places : (id : ℕ) → id < length heap.order.items → place_of heap id < length heap.order.items
  pub place_at : (place : ℕ) → place < length heap.order.items → place_of heap (id_at heap place) ≡ place
  pub id_in : (id : ℕ) → id < length heap.order.items → id_at heap (place_of heap id) ≡ id

-- the ids of the map are those at the first places
pub record Lists (ranks : List (Option ℕ)) (heap : EndHeap) : Type 0 where
  pub index : IsIndex heap
  pub all_ids : length heap.order.items ≡ length ranks
  pub ranked : (id : ℕ) → id < length ranks → place_of heap id < heap.count → IsSome (rank_at ranks id)
  pub placed : (id : ℕ) → id < length ranks → IsSome (rank_at ranks id) → place_of heap id < heap.count

-- one place is the parent of another in the tree of the first places
pub record IsParent (heap : EndHeap) (parent child : ℕ) : Type 0 where
  pub first : 2 * parent < child
  pub second : child ≤ 2 * parent + 2
  pub counted : child < heap.count

-- the id at one place doesn't come before the id at another
abbrev pub IsBehind : List (Option ℕ) → EndHeap → ℕ → ℕ → Type 0
IsBehind ranks heap place other = is_ahead heap.end ranks (id_at heap place) (id_at heap other) ≡ false

-- no id comes before its parent
pub record IsOrdered (ranks : List (Option ℕ)) (heap : EndHeap) : Type 0 where
  pub behind : (parent child : ℕ) → IsParent heap parent child → IsBehind ranks heap child parent

-- no id comes before its parent, but for the id at one place and its children, which stand right towards its parent
pub record IsLoose (ranks : List (Option ℕ)) (heap : EndHeap) (at : ℕ) : Type 0 where
  pub behind : (parent child : ℕ) → IsParent heap parent child → parent ≢ at → child ≢ at → IsBehind ranks heap child parent
  pub across : (parent child : ℕ) → IsParent heap parent at → IsParent heap at child → IsBehind ranks heap child parent

-- no id comes before its parent, but for the children of one place, which stand right towards its parent
pub record IsLooseBelow (ranks : List (Option ℕ)) (heap : EndHeap) (at : ℕ) : Type 0 where
  pub behind : (parent child : ℕ) → IsParent heap parent child → parent ≢ at → IsBehind ranks heap child parent
  pub across : (parent child : ℕ) → IsParent heap parent at → IsParent heap at child → IsBehind ranks heap child parent

-- a child of the place before which the place's other child doesn't come
pub record IsFirstChild (ranks : List (Option ℕ)) (heap : EndHeap) (at child : ℕ) : Type 0 where
  pub parent : IsParent heap at child
  pub first : (other : ℕ) → IsParent heap at other → IsBehind ranks heap other child

-- the first child of the place, which comes before the place
pub record Leads (ranks : List (Option ℕ)) (heap : EndHeap) (at child : ℕ) : Type 0 where
  pub is_first : IsFirstChild ranks heap at child
  pub ahead : is_ahead heap.end ranks (id_at heap child) (id_at heap at) ≡ true

-- the ids at two places have changed theirs
pub record Exchanges (old new : EndHeap) (place other : ℕ) : Type 0 where
  pub order : new.order.items ≡ swap old.order.items place other
  pub places : new.places.items ≡ swap old.places.items (id_at old place) (id_at old other)
  pub count : new.count ≡ old.count
  pub end : new.end ≡ old.end

-- a heap of the map's ids
pub record IsEndHeap (ranks : List (Option ℕ)) (heap : EndHeap) : Type 0 where
  pub lists : Lists ranks heap
  pub ordered : IsOrdered ranks heap
