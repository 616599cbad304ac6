-- The changes of a tier.
use Rattle.std.specs.Prelude.{ℕ, Bool, true, false, List, [], ◌∷◌, ◌++◌, length, map, replicate, Some, None, slice_index_or, slice_set}
use Rattle.std.specs.List.{range_with_len}
use Rattle.file_model.specs.Lists.{IndexLists, SeenBody}
use Rattle.tier_model.specs.declared.turns.Abort.{Abort}
use Rattle.tier_model.specs.declared.turns.Abort.TheVariants as reasons
use Rattle.tier_model.specs.declared.turns.Turn.{Turn}
use Rattle.tier_model.specs.declared.turns.Turn.TheVariants.{Reserve, Evict, Got, Lost, Fault, Changed, Commit}
use Rattle.tier_model.specs.Places.{bare, with_body, without}
use Rattle.tier_model.specs.Tiers.{TierState, count, sizes_of, base_marks}

-- ---- with an entry of the journal

-- the patch comes, as the last and without a body
unfoldable pub reserved : TierState → ℕ → TierState
reserved s p = record s { coming = s.coming ++ bare p ∷ []; journal = s.journal ++ Reserve p ∷ [] }

-- the body of the patch came
unfoldable pub arrived : TierState → ℕ → SeenBody → TierState
arrived s p body = record s { came = slice_set s.came p (Some body); coming = with_body p s.coming; journal = s.journal ++ Got p ∷ [] }

-- the entry that says why a patch doesn't come
unfoldable pub abort_entry : ℕ → Abort → Turn
abort_entry p reasons.Lost = Lost p
abort_entry p reasons.Fault = Fault p
abort_entry p (reasons.Changed fault) = Changed p fault

-- what is put aside: a patch at which the store failed, or the file has changed
unfoldable pub aside_after : List Bool → ℕ → Abort → List Bool
aside_after aside p reasons.Lost = aside
aside_after aside p reasons.Fault = slice_set aside p true
aside_after aside p (reasons.Changed fault) = slice_set aside p true

-- the patch comes no more, and has no body
unfoldable pub aborted : TierState → ℕ → Abort → TierState
aborted s p why = record s { aside = aside_after s.aside p why; coming = without p s.coming; journal = s.journal ++ abort_entry p why ∷ [] }

-- the patch is held, with the body that came
unfoldable pub committed : TierState → ℕ → TierState
committed s p = record s {
  held = slice_set s.held p (slice_index_or s.came p None);
  came = slice_set s.came p None;
  coming = without p s.coming;
  journal = s.journal ++ Commit p ∷ [];
}

-- the patch isn't held any more
unfoldable pub dropped : TierState → ℕ → TierState
dropped s p = record s { held = slice_set s.held p None; journal = s.journal ++ Evict p ∷ [] }

-- ---- without an entry

-- no patch is marked
abbrev pub none_marked : TierState → List Bool
none_marked s = replicate (count s) false

-- the patch was passed over
unfoldable pub passed_over : TierState → ℕ → TierState
passed_over s p = record s { passed = slice_set s.passed p true }

-- no patch was passed over
unfoldable pub calmed : TierState → TierState
calmed s = record s { passed = none_marked s }

-- no patch was passed over or put aside since this version of the wishes
unfoldable pub renewed : TierState → ℕ → TierState
renewed s version = record s { version = version; passed = none_marked s; aside = none_marked s }

-- the tier keeps these wishes
unfoldable pub ranked : TierState → (ℕ → ℕ) → TierState
ranked s wish = record s { wishes = map wish (range_with_len 0 (count s)) }

-- ---- before the first entry

-- a tier of the index that holds nothing
unfoldable pub fresh : IndexLists → ℕ → ℕ → TierState
fresh index budget width = record {
  budget = budget;
  width = width;
  version = 0;
  sizes = sizes_of index;
  wishes = replicate (length index.fields) 0;
  base = base_marks index.fields;
  pinned = replicate (length index.fields) false;
  passed = replicate (length index.fields) false;
  aside = replicate (length index.fields) false;
  held = replicate (length index.fields) None;
  came = replicate (length index.fields) None;
  coming = [];
  journal = [];
}

-- the tier holds the body's patch, and never gives it up
unfoldable pub with_pin : TierState → SeenBody → TierState
with_pin s body = record s { pinned = slice_set s.pinned body.patch true; held = slice_set s.held body.patch (Some body) }
