-- What a search of a heap finds, where a test may answer so.
use Rattle.std.specs.Prelude.{◌≡◌, ℕ, ◌+◌, ◌*◌, ◌<◌, ◌≤◌, ◌⊎◌, Bool, true, false, List, Option, MatchOption}
use Rattle.tier_heap.specs.EndHeap.{id_at, IsBehind}
use Rattle.tier_heap.specs.declared.end_heap.EndHeap.{EndHeap}

-- a place is another, or is under it in the tree of places
pub data IsUnder (top : ℕ) : ℕ → Type 0 where
  Top : IsUnder top top
  Child : {parent child : ℕ} → IsUnder top parent → 2 * parent < child → child ≤ 2 * parent + 2 → IsUnder top child

-- what was found, if anything, is a place of the map's ids, and its id was answered to fit
abbrev pub IsFound : EndHeap → (ℕ → Bool → Type 0) → Option ℕ → Type 0
IsFound heap answers found = MatchOption found (Unit {0}) (λ place. (place < heap.count) × answers (id_at heap place) true)

-- the id at a place was answered not to fit, or doesn't come before the one found
abbrev pub IsOutdone : List (Option ℕ) → EndHeap → (ℕ → Bool → Type 0) → Option ℕ → ℕ → Type 0
IsOutdone ranks heap answers found place = MatchOption found (answers (id_at heap place) false) (λ best. answers (id_at heap place) false ⊎ IsBehind ranks heap place best)

-- a search from a place: what it found outdoes all under the place, and all that what was found before outdid
pub record Searches (ranks : List (Option ℕ)) (heap : EndHeap) (answers : ℕ → Bool → Type 0) (top : ℕ) (before found : Option ℕ) : Type 0 where
  pub fits : IsFound heap answers found
  pub kept : (place : ℕ) → IsOutdone ranks heap answers before place → IsOutdone ranks heap answers found place
  pub under : (place : ℕ) → IsUnder top place → place < heap.count → IsOutdone ranks heap answers found place

-- no id of the heap was answered to fit
abbrev pub NoneIsFound : EndHeap → (ℕ → Bool → Type 0) → Type 0
NoneIsFound heap answers = (place : ℕ) → place < heap.count → answers (id_at heap place) false

-- the id was answered to fit, and no id that wasn't answered not to fit comes before it
pub record IsFirstFound (ranks : List (Option ℕ)) (heap : EndHeap) (answers : ℕ → Bool → Type 0) (id : ℕ) : Type 0 where
  pub place : ℕ
  pub within : place < heap.count
  pub is : id ≡ id_at heap place
  pub fits : answers id true
  pub first : (other : ℕ) → other < heap.count → answers (id_at heap other) false ⊎ IsBehind ranks heap other place
