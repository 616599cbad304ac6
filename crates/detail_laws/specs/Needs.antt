-- What a tier needs room for, and what a settling must not meet, so that all that is wished comes.
use Rattle.std.specs.Prelude.{◌≡◌, ℕ, ◌+◌, ◌<◌, ◌≤◌, Bool, true, false, not, ◌&&◌, ◌||◌, List, length, Some, nat_lt, slice_get, if◌then◌else◌}
use Rattle.std.specs.List.{AllByRecursion}
use Rattle.token_words.specs.declared.keeping.TheConstants.{LAST_EPOCH}
use Rattle.tier_model.specs.declared.turns.Turn.{Turn}
use Rattle.tier_model.specs.declared.turns.Turn.TheVariants.{Reserve, Evict, Kept, Got, Lost, Fault, Changed, Commit, Idle}
use Rattle.tier_model.specs.Places.{is_marked, is_coming}
use Rattle.tier_model.specs.Tiers.{TierState, count, size, is_held, IsTier}
use Rattle.tier_model.specs.Turns.{Board}
use Rattle.tier_model.specs.Chains.{Chain}
use Rattle.tier_model.specs.Keeping.{KeepsWishes}
use Rattle.settling_laws.specs.Stages.{sum_below}

-- the patch is pinned, or is no base patch and is wished, passed over or in use
abbrev pub is_needed : TierState → (ℕ → ℕ) → (ℕ → Bool) → ℕ → Bool
is_needed s wish used p = is_marked s.pinned p || (not (is_marked s.base p) && (nat_lt 0 (wish p) || used p))

-- how many bytes the needed patches have
abbrev pub needed_bytes : TierState → (ℕ → ℕ) → (ℕ → Bool) → ℕ
needed_bytes s wish used = sum_below (count s) (λ p. if is_needed s wish used p then size s p else 0)

-- the pinned patches are base patches, and no other base patch is held or comes
pub record KeepsBase (s : TierState) : Type 0 where
  pub pins : (p : ℕ) → is_marked s.pinned p ≡ true → is_marked s.base p ≡ true
  pub held : (p : ℕ) → is_marked s.base p ≡ true → is_held s p ≡ true → is_marked s.pinned p ≡ true
  pub coming : (p : ℕ) → is_marked s.base p ≡ true → is_coming s.coming p ≡ false

-- nothing is aside, and what was passed over is among these patches
pub record IsCalm (used : ℕ → Bool) (s : TierState) : Type 0 where
  pub none_aside : (p : ℕ) → is_marked s.aside p ≡ false
  pub passed : (p : ℕ) → is_marked s.passed p ≡ true → used p ≡ true

-- the tier has room for all that is wished, passed over or in use, and nothing is aside
pub record IsTierReady (board : Board) (used : ℕ → Bool) (s : TierState) : Type 0 where
  pub is_tier : IsTier s
  pub keeps_base : KeepsBase s
  pub keeps_wishes : KeepsWishes board s
  pub room : needed_bytes s board.wish used ≤ s.budget
  pub calm : IsCalm used s

-- the turn's fetch doesn't fault, and a patch that is kept is one of those in use
abbrev pub GoesWell : (ℕ → Bool) → Turn → Type 0
GoesWell used (Fault p) = ⊥
GoesWell used (Changed p fault) = ⊥
GoesWell used (Kept p uses) = used p ≡ true
GoesWell used (Reserve p) = Unit {0}
GoesWell used (Evict p) = Unit {0}
GoesWell used (Got p) = Unit {0}
GoesWell used (Lost p) = Unit {0}
GoesWell used (Commit p) = Unit {0}
GoesWell used Idle = Unit {0}

-- so does each turn, of the tier whose number stands beside it
abbrev pub GoWell : (ℕ → ℕ → Bool) → List (ℕ × Turn) → Type 0
GoWell used log = AllByRecursion (λ (entry : ℕ × Turn). GoesWell (used entry.0) entry.1) log

-- tier k holds the patch
pub record IsHeldIn (tiers : List TierState) (k p : ℕ) : Type 0 where
  pub tier : TierState
  pub at : slice_get tiers k ≡ Some tier
  pub holds : is_held tier p ≡ true

-- the first n tiers are ready, and over the same base patches; no epoch is among the last three
pub record AreReady (board : Board) (used : ℕ → ℕ → Bool) (base : List Bool) (n : ℕ) (a : Chain) : Type 0 where
  pub each : (k : ℕ) (s : TierState) → k < n → slice_get a.tiers k ≡ Some s → IsTierReady board (used k) s
  pub same_base : (k : ℕ) (s : TierState) → k < n → slice_get a.tiers k ≡ Some s → s.base ≡ base
  pub low : (p : ℕ) → p < length base → a.epochs p + 2 < LAST_EPOCH
