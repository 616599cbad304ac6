-- What a journal, or a list of turns, counts up to.
use Rattle.std.specs.Prelude.{◌≡◌, ℕ, ◌+◌, ◌==◌, List, [], ◌∷◌, slice_index, if◌then◌else◌}
use Rattle.tier_model.specs.declared.turns.Turn.{Turn}
use Rattle.tier_model.specs.declared.turns.Turn.TheVariants.{Reserve, Evict, Kept, Got, Lost, Fault, Changed, Commit, Idle}
use Rattle.tier_model.specs.Places.{is_marked}
use Rattle.tier_model.specs.Tiers.{TierState}

-- 1 where the numbers are one, else 0
abbrev pub one_at : ℕ → ℕ → ℕ
one_at p q = if q == p then 1 else 0

-- 1 for a turn in which the patch came to be held, or left
unfoldable pub moves : Turn → ℕ → ℕ
moves (Commit p) q = one_at p q
moves (Evict p) q = one_at p q
moves (Reserve p) q = 0
moves (Kept p uses) q = 0
moves (Got p) q = 0
moves (Lost p) q = 0
moves (Fault p) q = 0
moves (Changed p fault) q = 0
moves Idle q = 0

-- how often the patch came to be held, or left
unfoldable pub commits_and_evicts : List Turn → ℕ → ℕ
commits_and_evicts [] p = 0
commits_and_evicts (t ∷ ts) p = moves t p + commits_and_evicts ts p

-- how many bytes came in a turn
unfoldable pub bytes_got : List ℕ → Turn → ℕ
bytes_got sizes (Got p) = slice_index sizes p
bytes_got sizes (Reserve p) = 0
bytes_got sizes (Evict p) = 0
bytes_got sizes (Kept p uses) = 0
bytes_got sizes (Lost p) = 0
bytes_got sizes (Fault p) = 0
bytes_got sizes (Changed p fault) = 0
bytes_got sizes (Commit p) = 0
bytes_got sizes Idle = 0

-- how many bytes came
unfoldable pub got_bytes : List ℕ → List Turn → ℕ
got_bytes sizes [] = 0
got_bytes sizes (t ∷ ts) = bytes_got sizes t + got_bytes sizes ts

-- 1 for a turn in which the store failed
unfoldable pub is_fault : Turn → ℕ
is_fault (Fault p) = 1
is_fault (Reserve p) = 0
is_fault (Evict p) = 0
is_fault (Kept p uses) = 0
is_fault (Got p) = 0
is_fault (Lost p) = 0
is_fault (Changed p fault) = 0
is_fault (Commit p) = 0
is_fault Idle = 0

-- how often the store failed
unfoldable pub faults_in : List Turn → ℕ
faults_in [] = 0
faults_in (t ∷ ts) = is_fault t + faults_in ts

-- 1 for a turn in which the tier below didn't hold the patch
unfoldable pub is_lost : Turn → ℕ
is_lost (Lost p) = 1
is_lost (Reserve p) = 0
is_lost (Evict p) = 0
is_lost (Kept p uses) = 0
is_lost (Got p) = 0
is_lost (Fault p) = 0
is_lost (Changed p fault) = 0
is_lost (Commit p) = 0
is_lost Idle = 0

-- how often the tier below didn't hold a patch
unfoldable pub lost_in : List Turn → ℕ
lost_in [] = 0
lost_in (t ∷ ts) = is_lost t + lost_in ts

-- 1 for a turn in which a body broke the rule that it met at the check
unfoldable pub is_change : Turn → ℕ
is_change (Changed p fault) = 1
is_change (Reserve p) = 0
is_change (Evict p) = 0
is_change (Kept p uses) = 0
is_change (Got p) = 0
is_change (Lost p) = 0
is_change (Fault p) = 0
is_change (Commit p) = 0
is_change Idle = 0

-- how often a body did
unfoldable pub changes_in : List Turn → ℕ
changes_in [] = 0
changes_in (t ∷ ts) = is_change t + changes_in ts

-- the entry that a turn leaves in the journal: all but `Kept` and `Idle` leave one
unfoldable pub entries_of : Turn → List Turn
entries_of (Kept p uses) = []
entries_of Idle = []
entries_of (Reserve p) = Reserve p ∷ []
entries_of (Evict p) = Evict p ∷ []
entries_of (Got p) = Got p ∷ []
entries_of (Lost p) = Lost p ∷ []
entries_of (Fault p) = Fault p ∷ []
entries_of (Changed p fault) = Changed p fault ∷ []
entries_of (Commit p) = Commit p ∷ []

-- each epoch is how often the journal has its patch come to be held or leave, and one more for a base patch
pub record AreCounted (s : TierState) (epochs : ℕ → ℕ) : Type 0 where
  pub counted : (p : ℕ) → epochs p ≡ commits_and_evicts s.journal p + (if is_marked s.base p then 1 else 0)
