-- Counts of faults, and what a failed call owes to one.
use Rattle.std.specs.Prelude.{ℕ, ◌+◌, ◌-◌, ◌^◌, ◌≤◌, min, Bool, if◌then◌else◌, Result, OnErr}
use Rattle.std.proofs.Common.{arith}

-- the count rose, or stands at the last value of a `u64`
abbrev pub Rose : ℕ → ℕ → Type 0
Rose before now = min (before + 1) (2 ^ 64 - 1) ≤ now

-- the count rose by at least so many, or stands at the last value of a `u64`
abbrev pub RoseBy : ℕ → ℕ → ℕ → Type 0
RoseBy n before now = min (before + n) (2 ^ 64 - 1) ≤ now

-- the count of faults after a call, which stays at the last value of a `u64`
abbrev pub faults_after : Bool → ℕ → ℕ
faults_after fails faults = if fails then min (faults + 1) (2 ^ 64 - 1) else faults

-- the count didn't fall, and it rose where the call failed though what it asked for is there
pub record HasCause {T E : Type 0} (before now : ℕ) (there : Type 0) (result : Result T E) : Type 0 where
  pub later : before ≤ now
  pub failed : OnErr result (there → Rose before now)

-- two rises are one by their sum
pub RoseBy-sum : (m n before between now : ℕ) → RoseBy m before between → RoseBy n between now
    → RoseBy (m + n) before now
RoseBy-sum m n before between now first second = omega (arith, first, second)

-- what rose before has risen later
pub Rose-later : (before between now : ℕ) → Rose before between → between ≤ now → Rose before now
Rose-later before between now rose later = omega arith

-- what rises later has risen since before
pub Rose-earlier : (before between now : ℕ) → before ≤ between → Rose between now → Rose before now
Rose-earlier before between now earlier rose = omega arith
