-- What the code writes is the change.
use Rattle.std.proofs.Common.{◌≡◌, ℕ, true, Bool, false, List, [], ◌∷◌, ◌++◌, length, replicate, map, Option, Some, None}
use Rattle.std.specs.Prelude.{slice_index_or, slice_set}
use Rattle.std.specs.List.{range_with_len}
use Rattle.file_model.specs.Lists.{IndexLists, SeenBody}
use Rattle.tier_model.specs.declared.turns.Abort.{Abort}
use Rattle.tier_model.specs.declared.turns.Coming.{Coming}
use Rattle.tier_model.specs.declared.turns.Turn.{Turn}
use Rattle.tier_model.specs.declared.turns.Turn.TheVariants.{Reserve, Evict, Got, Commit}
use Rattle.tier_model.specs.Places.{bare, with_body, without}
use Rattle.tier_model.specs.Tiers.{TierState, count, sizes_of, base_marks}
use Rattle.tier_model.specs.Changes.{fresh, reserved, arrived, abort_entry, aside_after, aborted, committed, dropped, passed_over, none_marked, calmed, renewed, ranked, with_pin}

pub reserved_is : (s : TierState) (p : ℕ) (coming : List Coming) (journal : List Turn) → coming ≡ s.coming ++ bare p ∷ [] → journal ≡ s.journal ++ Reserve p ∷ [] → record s { coming = coming; journal = journal } ≡ reserved s p
unfolding reserved
reserved_is s p coming journal a b = rw (a, b)

pub arrived_is : (s : TierState) (p : ℕ) (body : SeenBody) (came : List (Option SeenBody)) (coming : List Coming) (journal : List Turn) → came ≡ slice_set s.came p (Some body) → coming ≡ with_body p s.coming → journal ≡ s.journal ++ Got p ∷ [] → record s { came = came; coming = coming; journal = journal } ≡ arrived s p body
unfolding arrived
arrived_is s p body came coming journal a b d = rw (a, b, d)

pub aborted_is : (s : TierState) (p : ℕ) (why : Abort) (aside : _) (coming : List Coming) (journal : List Turn) → aside ≡ aside_after s.aside p why → coming ≡ without p s.coming → journal ≡ s.journal ++ abort_entry p why ∷ [] → record s { aside = aside; coming = coming; journal = journal } ≡ aborted s p why
unfolding aborted
aborted_is s p why aside coming journal a b d = rw (a, b, d)

pub committed_is : (s : TierState) (p : ℕ) (held came : List (Option SeenBody)) (coming : List Coming) (journal : List Turn) → held ≡ slice_set s.held p (slice_index_or s.came p None) → came ≡ slice_set s.came p None → coming ≡ without p s.coming → journal ≡ s.journal ++ Commit p ∷ [] → record s { held = held; came = came; coming = coming; journal = journal } ≡ committed s p
unfolding committed
committed_is s p held came coming journal a b d e = rw (a, b, d, e)

pub dropped_is : (s : TierState) (p : ℕ) (held : List (Option SeenBody)) (journal : List Turn) → held ≡ slice_set s.held p None → journal ≡ s.journal ++ Evict p ∷ [] → record s { held = held; journal = journal } ≡ dropped s p
unfolding dropped
dropped_is s p held journal a b = rw (a, b)

pub passed_over_is : (s : TierState) (p : ℕ) (passed : List Bool) → passed ≡ slice_set s.passed p true → record s { passed = passed } ≡ passed_over s p
unfolding passed_over
passed_over_is s p passed a = rw a

pub calmed_is : (s : TierState) (passed : _) → passed ≡ none_marked s → record s { passed = passed } ≡ calmed s
unfolding calmed
calmed_is s passed a = rw a

pub renewed_is : (s calm : TierState) (version : ℕ) (aside : List Bool) → calm ≡ calmed s → aside ≡ none_marked calm → record calm { version = version; aside = aside } ≡ renewed s version
unfolding calmed renewed
renewed_is s calm version aside a b = rw (b, a)

pub ranked_is : (s : TierState) (wish : ℕ → ℕ) (wishes : List ℕ) → wishes ≡ map wish (range_with_len 0 (count s)) → record s { wishes = wishes } ≡ ranked s wish
unfolding ranked
ranked_is s wish wishes a = rw a

pub with_pin_is : (s : TierState) (body : SeenBody) (pinned : _) (held : List (Option SeenBody)) → pinned ≡ slice_set s.pinned body.patch true → held ≡ slice_set s.held body.patch (Some body) → record s { pinned = pinned; held = held } ≡ with_pin s body
unfolding with_pin
with_pin_is s body pinned held a b = rw (a, b)

pub fresh_is : (index : IndexLists) (budget width : ℕ) (sizes wishes : List ℕ) (base pinned passed aside : List Bool) (held came : List (Option SeenBody)) (coming : List Coming) (journal : List Turn)
    → sizes ≡ sizes_of index → wishes ≡ replicate (length index.fields) 0 → base ≡ base_marks index.fields → pinned ≡ replicate (length index.fields) false → passed ≡ replicate (length index.fields) false
    → aside ≡ replicate (length index.fields) false → held ≡ replicate (length index.fields) None → came ≡ replicate (length index.fields) None → coming ≡ [] → journal ≡ []
    → record { budget = budget; width = width; version = 0; sizes = sizes; wishes = wishes; base = base; pinned = pinned; passed = passed; aside = aside; held = held; came = came; coming = coming; journal = journal } ≡ fresh index budget width
unfolding fresh
fresh_is index budget width sizes wishes base pinned passed aside held came coming journal a b d e f g h i j k = rw (a, b, d, e, f, g, h, i, j, k)
