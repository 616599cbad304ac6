-- The count of the bytes that a store has handed over.
use Rattle.std.specs.Prelude.{◌≡◌, ℕ, ◌+◌, ◌-◌, ◌^◌, ◌<◌, ◌≤◌, min, max}
use Rattle.std.proofs.Common.{arith}

-- the count after n bytes more: it stays at the last value of a `u128` where the sum would pass that
abbrev pub taken_after : ℕ → ℕ → ℕ
taken_after before n = max before (min (before + n) (2 ^ 128 - 1))

-- the count of bytes taken rose by less than the limit
pub record RisesBelow (before now limit : ℕ) : Type 0 where
  pub bytes : ℕ
  pub below : bytes < limit
  pub sum : now ≡ taken_after before bytes

-- the count of bytes taken rose by at most so many
abbrev pub RisesAtMost : ℕ → ℕ → ℕ → Type 0
RisesAtMost before now most = RisesBelow before now (most + 1)

pub taken_after-zero : (before : ℕ) → taken_after before 0 ≡ before
taken_after-zero before = omega arith

pub taken_after-taken_after : (before m n : ℕ) → taken_after (taken_after before m) n ≡ taken_after before (m + n)
taken_after-taken_after before m n = omega arith

-- below the last value the count is the sum
pub taken_after-exact : (before n : ℕ) → before + n ≤ 2 ^ 128 - 1 → taken_after before n ≡ before + n
taken_after-exact before n fits = omega arith
