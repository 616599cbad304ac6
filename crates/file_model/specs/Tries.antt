-- What an epoch answers to a try.
use Rattle.std.specs.Prelude.{ℕ, ◌%◌, ◌==◌, Bool}

-- a try is granted by an odd epoch: the patch is there
abbrev pub is_odd : ℕ → Bool
is_odd epoch = epoch % 2 == 1
