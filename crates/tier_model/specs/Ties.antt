-- The words of the top tier's patches: epochs and pins, and how a turn changes them.
use Rattle.std.specs.Prelude.{◌≡◌, ℕ, ◌+◌, ◌<◌, ◌==◌, Bool, true, if◌then◌else◌}
use Rattle.token_words.specs.declared.keeping.TheConstants.{LAST_EPOCH}
use Rattle.file_model.specs.Tries.{is_odd}
use Rattle.tier_model.specs.declared.turns.Turn.{Turn}
use Rattle.tier_model.specs.declared.turns.Turn.TheVariants.{Reserve, Evict, Kept, Got, Lost, Fault, Changed, Commit, Idle}
use Rattle.tier_model.specs.Places.{is_marked, is_coming}
use Rattle.tier_model.specs.Tiers.{TierState, count, is_held}

-- an epoch rises by one
abbrev pub risen : ℕ → (ℕ → ℕ) → ℕ → ℕ
risen p epochs q = if q == p then epochs q + 1 else epochs q

-- the epochs after a turn: that of a patch which came or left has risen
unfoldable pub epochs_after : Turn → (ℕ → ℕ) → ℕ → ℕ
epochs_after (Commit p) epochs q = risen p epochs q
epochs_after (Evict p) epochs q = risen p epochs q
epochs_after (Reserve p) epochs q = epochs q
epochs_after (Kept p uses) epochs q = epochs q
epochs_after (Got p) epochs q = epochs q
epochs_after (Lost p) epochs q = epochs q
epochs_after (Fault p) epochs q = epochs q
epochs_after (Changed p fault) epochs q = epochs q
epochs_after Idle epochs q = epochs q

-- the tier holds a patch exactly where its epoch is odd, has the pins of the words, and lets no patch come
-- whose epoch is the last
pub record IsTied (s : TierState) (epochs : ℕ → ℕ) (pinned : ℕ → Bool) : Type 0 where
  pub held : (p : ℕ) → p < count s → is_odd (epochs p) ≡ is_held s p
  pub pins : (p : ℕ) → p < count s → pinned p ≡ is_marked s.pinned p
  pub low : (p : ℕ) → is_coming s.coming p ≡ true → epochs p < LAST_EPOCH
