-- A finite map from ids to ranks, seen as the list of each id's rank, and its two ends.
use Rattle.std.specs.Prelude.{◌≡◌, ◌≢◌, ℕ, ◌⊎◌, Bool, true, false, ◌&&◌, ◌||◌, nat_lt, ◌==◌, List, Some, None, Option, slice_index_or, IsTrue}

-- the rank of an id, None where the id isn't in the map
abbrev pub rank_at : List (Option ℕ) → ℕ → Option ℕ
rank_at ranks id = slice_index_or ranks id None

-- no id is in the map
abbrev pub IsEmpty : List (Option ℕ) → Type 0
IsEmpty ranks = (id : ℕ) → rank_at ranks id ≡ None

-- an entry, an id with its rank, is above another: its rank is greater, or the ranks are equal and its id is less
abbrev pub is_above : ℕ × ℕ → ℕ × ℕ → Bool
is_above (id, rank) (other, other_rank) = nat_lt other_rank rank || (rank == other_rank && nat_lt id other)

-- the id is in the map, and its entry is above every other
pub record IsGreatest (ranks : List (Option ℕ)) (id : ℕ) : Type 0 where
  pub rank : ℕ
  pub entry : rank_at ranks id ≡ Some rank
  pub above : (other other_rank : ℕ) → rank_at ranks other ≡ Some other_rank → other ≢ id → IsTrue (is_above (id, rank) (other, other_rank))

-- the id is in the map, and every other entry is above its own
pub record IsLeast (ranks : List (Option ℕ)) (id : ℕ) : Type 0 where
  pub rank : ℕ
  pub entry : rank_at ranks id ≡ Some rank
  pub below : (other other_rank : ℕ) → rank_at ranks other ≡ Some other_rank → other ≢ id → IsTrue (is_above (other, other_rank) (id, rank))

-- every id of the map was answered not to fit
abbrev pub NoneFits : List (Option ℕ) → (ℕ → Bool → Type 0) → Type 0
NoneFits ranks answers = (id rank : ℕ) → rank_at ranks id ≡ Some rank → answers id false

-- the id is in the map and was answered to fit, and its entry is above every other that wasn't answered not to fit
pub record IsGreatestBy (ranks : List (Option ℕ)) (answers : ℕ → Bool → Type 0) (id : ℕ) : Type 0 where
  pub rank : ℕ
  pub entry : rank_at ranks id ≡ Some rank
  pub fits : answers id true
  pub above : (other other_rank : ℕ) → rank_at ranks other ≡ Some other_rank → other ≢ id → answers other false ⊎ IsTrue (is_above (id, rank) (other, other_rank))
