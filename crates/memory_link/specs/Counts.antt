-- Counts that are kept since the last multiple.
use Rattle.std.proofs.Common.{ℕ, ◌+◌, Bool, zero, suc}
use Rattle.std.specs.Prelude.{◌==◌, ◌&&◌, not, nat_le, if◌then◌else◌}

-- the count after one more
abbrev pub one_more : ℕ → ℕ → ℕ
one_more every count = if nat_le every (count + 1) then 0 else count + 1

-- the count stands at a multiple
abbrev pub is_multiple : ℕ → ℕ → Bool
is_multiple every count = not (every == 0) && (count == 0)

-- the count after so many, from 0 on
abbrev pub counted : ℕ → ℕ → ℕ
counted every zero = 0
counted every (suc n) = one_more every (counted every n)
