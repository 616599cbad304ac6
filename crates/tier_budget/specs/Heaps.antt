-- The heaps of a tier: which patches each has, and by which ranks.
use Rattle.std.specs.Prelude.{◌≡◌, ◌≢◌, ℕ, ◌<◌, ◌⊎◌, Bool, not, ◌&&◌, nat_lt, List, length, slice_index, slice_index_or, is_some, Option, Some, None, if◌then◌else◌}
use Rattle.file_model.specs.Lists.{SeenBody}
use Rattle.tier_heap.specs.Entries.{rank_at}
use Rattle.tier_model.specs.declared.turns.Coming.{Coming}
use Rattle.tier_model.specs.Places.{is_marked, is_coming}
use Rattle.tier_model.specs.Tiers.{TierState, count}

-- the heap has of each of n patches the rank that is told of it
pub record IsHeapOf (n : ℕ) (told : ℕ → Option ℕ) (heap : List (Option ℕ)) : Type 0 where
  pub all_patches : length heap ≡ n
  pub each : (p : ℕ) → p < n → rank_at heap p ≡ told p

-- a patch that is held, neither pinned nor passed over, may leave, by its wish
abbrev pub leaving_rank : Bool → Bool → Bool → ℕ → Option ℕ
leaving_rank held pinned passed wish = if held && (not pinned && not passed) then Some wish else None

abbrev pub leaving_told : List (Option SeenBody) → List Bool → Bool → List ℕ → ℕ → Option ℕ
leaving_told held pinned passed wishes p = leaving_rank (is_some (slice_index_or held p None)) (is_marked pinned p) passed (slice_index wishes p)

abbrev pub leaving_at : TierState → ℕ → Option ℕ
leaving_at s p = leaving_told s.held s.pinned (is_marked s.passed p) s.wishes p

-- the heap has the patches that may leave
abbrev pub IsLeaving : TierState → List (Option ℕ) → Type 0
IsLeaving s heap = IsHeapOf (count s) (leaving_at s) heap

-- a patch that is wished, no base patch, and neither held nor coming nor put aside, is missing, by its wish
abbrev pub missing_rank : ℕ → Bool → Bool → Bool → Bool → Option ℕ
missing_rank wish base held coming aside = if nat_lt 0 wish && (not base && (not held && (not coming && not aside))) then Some wish else None

abbrev pub missing_told : List ℕ → List Bool → List (Option SeenBody) → List Coming → Bool → ℕ → Option ℕ
missing_told wishes base held coming aside p = missing_rank (slice_index wishes p) (is_marked base p) (is_some (slice_index_or held p None)) (is_coming coming p) aside

abbrev pub missing_at : TierState → ℕ → Option ℕ
missing_at s p = missing_told s.wishes s.base s.held s.coming (is_marked s.aside p) p

-- the heap has the patches that are missing
abbrev pub IsMissing : TierState → List (Option ℕ) → Type 0
IsMissing s heap = IsHeapOf (count s) (missing_at s) heap

-- each patch has the rank that is told of it, or it isn't one of the first n that are listed, and has the rank that it had
pub record Refreshes (old : List (Option ℕ)) (n : ℕ) (listed : List ℕ) (told : ℕ → Option ℕ) (new : List (Option ℕ)) : Type 0 where
  pub all_patches : length new ≡ length old
  pub each : (p : ℕ) → (rank_at new p ≡ told p) ⊎ (((i : ℕ) → i < n → slice_index listed i ≢ p) × (rank_at new p ≡ rank_at old p))
