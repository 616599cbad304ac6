-- The integer square root of a number.
use Rattle.std.specs.Prelude.{ℕ, zero, suc, ◌*◌, nat_le, if◌then◌else◌}

-- the greatest number up to most whose square is at most n
unfoldable pub root_up_to : ℕ → ℕ → ℕ
root_up_to zero n = 0
root_up_to (suc most) n = if nat_le (suc most * suc most) n then suc most else root_up_to most n

-- the greatest number whose square is at most n
unfoldable pub root_of : ℕ → ℕ
root_of n = root_up_to n n
