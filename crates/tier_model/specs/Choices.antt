-- The topmost of the patches that fit, and so the candidate and the victim of a tier.
use Rattle.std.specs.Prelude.{◌≡◌, ◌≢◌, ℕ, zero, suc, ◌-◌, ◌<◌, ◌==◌, ◌⊎◌, Bool, true, false, not, ◌&&◌, ◌||◌, Option, Some, None, MatchOption, nat_lt, nat_le, if◌then◌else◌}
use Rattle.std.specs.Bool.{MatchBool}
use Rattle.token_words.specs.declared.keeping.TheConstants.{LAST_EPOCH}
use Rattle.tier_model.specs.Places.{is_marked, is_coming}
use Rattle.tier_model.specs.Tiers.{TierState, count, size, kept_wish, is_held, pinned_bytes}
use Rattle.tier_model.specs.Ranks.{outranks}

-- ---- the topmost

-- the greatest number below n that passes the test
unfoldable pub some_below : ℕ → (ℕ → Bool) → Option ℕ
some_below zero test = None
some_below (suc n) test = if test n then Some n else some_below n test

-- whether each number below n passes the test
unfoldable pub all_below : ℕ → (ℕ → Bool) → Bool
all_below zero test = true
all_below (suc n) test = test n && all_below n test

-- whether p fits and is above every other below n that fits
unfoldable pub is_topmost : ℕ → (ℕ → Bool) → (ℕ → ℕ → Bool) → ℕ → Bool
is_topmost n fits above p = fits p && all_below n (λ q. not (fits q) || (q == p || above p q))

-- the one of n patches that fits and is above every other that fits
unfoldable pub topmost : ℕ → (ℕ → Bool) → (ℕ → ℕ → Bool) → Option ℕ
topmost n fits above = some_below n (is_topmost n fits above)

-- p fits, and is above every other that fits
pub record IsTopmost (n : ℕ) (fits : ℕ → Bool) (above : ℕ → ℕ → Bool) (p : ℕ) : Type 0 where
  pub within : p < n
  pub passes : fits p ≡ true
  pub beats : (q : ℕ) → q < n → fits q ≡ true → q ≢ p → above p q ≡ true

-- the choice is the topmost of n patches, and none where none fits
abbrev pub Chooses : ℕ → (ℕ → Bool) → (ℕ → ℕ → Bool) → Option ℕ → Type 0
Chooses n fits above choice = MatchOption choice ((q : ℕ) → q < n → fits q ≡ false) (IsTopmost n fits above)

-- p was answered to fit, and is above every other that wasn't answered not to fit
pub record IsTopmostBy (n : ℕ) (answers : ℕ → Bool → Type 0) (above : ℕ → ℕ → Bool) (p : ℕ) : Type 0 where
  pub within : p < n
  pub passes : answers p true
  pub beats : (q : ℕ) → q < n → q ≢ p → answers q false ⊎ (above p q ≡ true)

-- the choice is the topmost of n patches by a test that may answer so, and none where none was answered to fit
abbrev pub ChoosesBy : ℕ → (ℕ → Bool → Type 0) → (ℕ → ℕ → Bool) → Option ℕ → Type 0
ChoosesBy n answers above choice = MatchOption choice ((q : ℕ) → q < n → answers q false) (IsTopmostBy n answers above)

-- what a test answers where it is asked, and false elsewhere
abbrev pub OrAnswers : Bool → (Bool → Type 0) → Bool → Type 0
OrAnswers asked answers answer = MatchBool asked (answers answer) (answer ≡ false)

-- ---- candidate and victim

-- what a tier is told in a turn: what the tier below has, whether this is the top, and the epochs
pub record Told : Type 0 where
  pub has : ℕ → Bool
  pub top : Bool
  pub epochs : ℕ → ℕ

-- the patch is wished, and neither a base patch nor held, coming or put aside
abbrev pub is_missing : TierState → ℕ → Bool
is_missing s p = nat_lt 0 (kept_wish s p) && (not (is_marked s.base p) && (not (is_held s p) && (not (is_coming s.coming p) && not (is_marked s.aside p))))

-- the patch fits beside the pinned ones, the tier below has it, and at the top its epoch isn't the last
abbrev pub is_admissible : Told → TierState → ℕ → Bool
is_admissible told s p = nat_le (size s p) (s.budget - pinned_bytes s) && (told.has p && (not told.top || nat_lt (told.epochs p) LAST_EPOCH))

-- the patch that is to come next: the highest that is missing and admissible
unfoldable pub candidate : Told → TierState → Option ℕ
candidate told s = topmost (count s) (λ p. is_missing s p && is_admissible told s p) (outranks (kept_wish s))

-- the patch is held, neither pinned nor passed, and ranks below the candidate
abbrev pub may_leave : TierState → ℕ → ℕ → Bool
may_leave s c p = is_held s p && (not (is_marked s.pinned p) && (not (is_marked s.passed p) && outranks (kept_wish s) c p))

-- the patch that is to leave for the candidate: the lowest that may
unfoldable pub victim : TierState → ℕ → Option ℕ
victim s c = topmost (count s) (may_leave s c) (λ p q. outranks (kept_wish s) q p)
