-- A chain of tiers, the first the top, and how it opens.
use Rattle.std.specs.Prelude.{ℕ, zero, suc, ◌+◌, Bool, true, false, List, [], ◌∷◌, map, Option, Some, None, slice_get, if◌then◌else◌}
use Rattle.std.specs.Option.{option_map_or}
use Rattle.file_model.specs.Lists.{IndexLists, SeenBody}
use Rattle.tier_model.specs.declared.turns.Turn.{Turn}
use Rattle.tier_model.specs.Places.{is_marked}
use Rattle.tier_model.specs.Tiers.{TierState, is_held, base_marks}
use Rattle.tier_model.specs.Changes.{fresh}
use Rattle.tier_model.specs.Choices.{Told}
use Rattle.tier_model.specs.Ties.{epochs_after}

-- the tiers, the top first, and the epochs of the top tier's patches
pub record Chain : Type 0 where
  pub tiers : List TierState
  pub epochs : ℕ → ℕ

-- whether the tier below tier k holds the patch; the store below the lowest tier has every patch
unfoldable pub has_below : List TierState → ℕ → ℕ → Bool
has_below tiers k p = option_map_or (λ (t : TierState). is_held t p) (slice_get tiers (suc k)) true

-- whether tier k is the top
unfoldable pub is_top : ℕ → Bool
is_top zero = true
is_top (suc k) = false

-- what tier k is told
abbrev pub told_at : Chain → ℕ → Told
told_at a k = record { has = has_below a.tiers k; top = is_top k; epochs = a.epochs }

-- the epochs after a turn of tier k: those of the top tier's patches alone change
unfoldable pub epochs_then : ℕ → Turn → (ℕ → ℕ) → ℕ → ℕ
epochs_then zero answer epochs p = epochs_after answer epochs p
epochs_then (suc k) answer epochs p = epochs p

-- ---- the opening

-- the bodies of the marked patches from number k on
unfoldable pub bodies_at : (ℕ → SeenBody) → ℕ → List Bool → List (Option SeenBody)
bodies_at body k [] = []
bodies_at body k (m ∷ ms) = (if m then Some (body k) else None) ∷ bodies_at body (k + 1) ms

-- the top tier holds the base patches, pinned
unfoldable pub opened_top : IndexLists → (ℕ → SeenBody) → ℕ → ℕ → TierState
opened_top index body budget width = record (fresh index budget width) { pinned = base_marks index.fields; held = bodies_at body 0 (base_marks index.fields) }

-- the top tier holds the base patches, and each other tier nothing
unfoldable pub opened_tiers : IndexLists → (ℕ → SeenBody) → List ℕ → ℕ → List TierState
opened_tiers index body [] width = []
opened_tiers index body (budget ∷ budgets) width = opened_top index body budget width ∷ map (λ b. fresh index b width) budgets

-- at the opening each base patch has epoch 1, and every other epoch is 0
unfoldable pub opened : IndexLists → (ℕ → SeenBody) → List ℕ → ℕ → Chain
opened index body budgets width = record { tiers = opened_tiers index body budgets width; epochs = λ p. if is_marked (base_marks index.fields) p then 1 else 0 }
