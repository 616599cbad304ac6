-- Laws of the words in Entries, for callers too.
use Rattle.std.proofs.Common.{◌≡◌, ◌≢◌, ℕ, ◌<◌, ◌≤◌, true, false, List, Option, None, length, is_some, IsSome, arith, subst, ⊎_elim}
use Rattle.std.proofs.lemmas.List.{get_or-set_same, get_or-set_other, get_or-replicate, get_or_past, length-replicate}
use Rattle.std.proofs.lemmas.Bool.{cases_lt, false≢true}
use Rattle.std.proofs.lemmas.Bool.Decides.{nat_tests}
use Rattle.std.specs.Prelude.{slice_set, replicate}
use Rattle.tier_heap.specs.Entries.{rank_at, is_above}

-- an entry above another isn't below it
pub above_not_below : (a b : ℕ × ℕ) → is_above a b ≡ true → is_above b a ≡ false
above_not_below a b h = grind (arith, nat_tests)

-- no entry is above itself
pub not_above_self : (a : ℕ × ℕ) → is_above a a ≡ false
not_above_self a = grind (arith, nat_tests)

-- of the entries of two ids one is above the other
pub above_from_not_below : (a b : ℕ × ℕ) → a.0 ≢ b.0 → is_above b a ≡ false → is_above a b ≡ true
above_from_not_below a b ne h = grind (arith, nat_tests)

-- an entry is above all that one below it is above
pub above_trans : (a b c : ℕ × ℕ) → is_above a b ≡ true → is_above b c ≡ true → is_above a c ≡ true
above_trans a b c h l = grind (arith, nat_tests)

-- what isn't above an entry isn't above one that the entry isn't above
pub not_above_trans : (a b c : ℕ × ℕ) → is_above b a ≡ false → is_above c b ≡ false → is_above c a ≡ false
not_above_trans a b c h l = grind (arith, nat_tests)

-- an id of the map is below the bound
pub id_in_range : (ranks : List (Option ℕ)) (id : ℕ) → IsSome (rank_at ranks id) → id < length ranks
id_in_range ranks id ranked =
    ⊎_elim
    (λ (within : id < length ranks). within)
    (λ (past : length ranks ≤ id). absurd (false≢true (subst (λ (o : Option ℕ). is_some o ≡ true) (get_or_past ranks id None past) ranked)))
    (cases_lt id (length ranks))

-- the id that was set has what it was set to
pub rank_at-set_same : (ranks : List (Option ℕ)) (id : ℕ) (o : Option ℕ) → id < length ranks → rank_at (slice_set ranks id o) id ≡ o
rank_at-set_same ranks id o within = get_or-set_same ranks id o None within

-- every other id keeps what it had
pub rank_at-set_other : (ranks : List (Option ℕ)) (id other : ℕ) (o : Option ℕ) → other ≢ id → rank_at (slice_set ranks id o) other ≡ rank_at ranks other
rank_at-set_other ranks id other o ne = get_or-set_other ranks id other o None ne

-- the map that begins has no ids
pub rank_at-replicate : (ids id : ℕ) → rank_at (replicate ids None) id ≡ None
rank_at-replicate ids id =
    ⊎_elim
    (λ (within : id < ids). get_or-replicate ids id None None within)
    (λ (past : ids ≤ id). get_or_past (replicate ids None) id None (rw length-replicate past))
    (cases_lt id ids)
