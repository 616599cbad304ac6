-- An end's order of ids is total, by rank and then by id.
use Rattle.std.proofs.Common.{◌≡◌, ℕ, true, false, List, Option}
use Rattle.tier_heap.specs.Laws.{above_not_below, not_above_self, not_above_trans}
use Rattle.tier_heap.specs.EndHeap.{is_ahead, entry_of}
use Rattle.tier_heap.specs.declared.end_heap.End.{End}
use Rattle.tier_heap.specs.declared.end_heap.End.TheVariants.{Greatest, Least}

-- no id comes before itself
pub not_ahead_self : (end : End) (ranks : List (Option ℕ)) (x : ℕ) → is_ahead end ranks x x ≡ false
unfolding is_ahead
not_ahead_self Greatest ranks x = not_above_self (entry_of ranks x)
not_ahead_self Least ranks x = not_above_self (entry_of ranks x)

-- of two ids only one comes first
pub ahead_not_behind : (end : End) (ranks : List (Option ℕ)) (x y : ℕ) → is_ahead end ranks x y ≡ true → is_ahead end ranks y x ≡ false
unfolding is_ahead
ahead_not_behind Greatest ranks x y h = above_not_below (entry_of ranks x) (entry_of ranks y) h
ahead_not_behind Least ranks x y h = above_not_below (entry_of ranks y) (entry_of ranks x) h

-- what comes no sooner than an id that comes no sooner than a third comes no sooner than the third
pub behind_trans : (end : End) (ranks : List (Option ℕ)) (x y z : ℕ) → is_ahead end ranks y x ≡ false → is_ahead end ranks z y ≡ false → is_ahead end ranks z x ≡ false
unfolding is_ahead
behind_trans Greatest ranks x y z h l = not_above_trans (entry_of ranks x) (entry_of ranks y) (entry_of ranks z) h l
behind_trans Least ranks x y z h l = not_above_trans (entry_of ranks z) (entry_of ranks y) (entry_of ranks x) l h
