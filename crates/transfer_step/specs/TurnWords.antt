-- What a turn is told, and what it does to the words and takes from the supply.
use Rattle.std.specs.Prelude.{◌≡◌, ℕ, Bool, true, false, not, ◌&&◌, ◌||◌, List, [], ◌∷◌, length, Option, None, nat_lt, nat_le, slice_index, if◌then◌else◌}
use Rattle.std.specs.Option.{option_map_or}
use Rattle.view_outside.specs.Taken.{taken_after, RisesAtMost}
use Rattle.token_words.specs.declared.keeping.TheConstants.{LAST_EPOCH}
use Rattle.tier_model.specs.declared.turns.Turn.{Turn}
use Rattle.tier_model.specs.declared.turns.Turn.TheVariants.{Reserve, Evict, Kept, Got, Lost, Fault, Changed, Commit, Idle}
use Rattle.tier_model.specs.Places.{first_bare}
use Rattle.tier_model.specs.Tiers.{TierState, size}
use Rattle.tier_model.specs.Choices.{Told, candidate}
use Rattle.tier_model.specs.Turns.{Board}
use Rattle.tier_model.specs.Ties.{epochs_after}

-- ---- what is told

-- what a tier is told: what is below it has these patches, a keeper with words is the top's, and the words' epochs
abbrev pub told_of : (ℕ → Bool) → Bool → (ℕ → ℕ) → Told
told_of has top epochs = record { has = has; top = top; epochs = epochs }

-- the wishes and their version
abbrev pub board_of : (ℕ → ℕ) → ℕ → Board
board_of wish version = record { wish = wish; version = version }

-- whether a patch is small enough for so much room, is there below, and at the top may still come
abbrev pub may_come : Told → List ℕ → ℕ → ℕ → Bool
may_come told sizes room p = nat_le (slice_index sizes p) room && (told.has p && (not told.top || nat_lt (told.epochs p) LAST_EPOCH))

-- the candidate, if fewer patches come than the tier is wide
unfoldable pub sought : Told → TierState → Option ℕ
sought told s = if nat_lt (length s.coming) s.width then candidate told s else None

-- ---- the words

-- the epochs after a turn: where there are words, those of the turn, else the same
abbrev pub TurnsEpochs : Bool → Turn → (ℕ → ℕ) → (ℕ → ℕ) → Type 0
TurnsEpochs true answer before after = (p : ℕ) → after p ≡ epochs_after answer before p
TurnsEpochs false answer before after = (p : ℕ) → after p ≡ before p

-- the evictions that were refused in a turn, each with its patch and the uses found
unfoldable pub misses_in : Turn → List (ℕ × ℕ)
misses_in (Kept p uses) = (p, uses) ∷ []
misses_in (Reserve p) = []
misses_in (Evict p) = []
misses_in (Got p) = []
misses_in (Lost p) = []
misses_in (Fault p) = []
misses_in (Changed p fault) = []
misses_in (Commit p) = []
misses_in Idle = []

-- ---- the supply

-- the bytes that a turn takes: of a body that came exactly its size, and at a failed fetch at most that
abbrev pub TurnTakes : List ℕ → Turn → ℕ → ℕ → Type 0
TurnTakes sizes (Got p) before now = now ≡ taken_after before (slice_index sizes p)
TurnTakes sizes (Fault p) before now = RisesAtMost before now (slice_index sizes p)
TurnTakes sizes (Changed p fault) before now = RisesAtMost before now (slice_index sizes p)
TurnTakes sizes (Reserve p) before now = now ≡ before
TurnTakes sizes (Evict p) before now = now ≡ before
TurnTakes sizes (Kept p uses) before now = now ≡ before
TurnTakes sizes (Lost p) before now = now ≡ before
TurnTakes sizes (Commit p) before now = now ≡ before
TurnTakes sizes Idle before now = now ≡ before

-- the size of the body that is to be fetched next
abbrev pub next_size : TierState → ℕ
next_size s = option_map_or (size s) (first_bare s.coming) 0

-- ---- kinds of turns

-- a patch was to be fetched
abbrev pub IsFetching : Turn → Type 0
IsFetching (Got p) = Unit {0}
IsFetching (Lost p) = Unit {0}
IsFetching (Fault p) = Unit {0}
IsFetching (Changed p fault) = Unit {0}
IsFetching (Reserve p) = ⊥
IsFetching (Evict p) = ⊥
IsFetching (Kept p uses) = ⊥
IsFetching (Commit p) = ⊥
IsFetching Idle = ⊥

-- a patch was to leave, or there was nothing to do
abbrev pub IsLeaving : Turn → Type 0
IsLeaving (Evict p) = Unit {0}
IsLeaving (Kept p uses) = Unit {0}
IsLeaving Idle = Unit {0}
IsLeaving (Reserve p) = ⊥
IsLeaving (Got p) = ⊥
IsLeaving (Lost p) = ⊥
IsLeaving (Fault p) = ⊥
IsLeaving (Changed p fault) = ⊥
IsLeaving (Commit p) = ⊥
