-- Calls that are planned to fail, each by how far away it is: 1 is the next call, 0 a call that is over.
use Rattle.std.specs.Prelude.{ℕ, ◌-◌, ◌==◌, ◌&&◌, Bool, if◌then◌else◌, List, map}
use Rattle.std.specs.List.{list_any}

-- the next call is to fail
abbrev pub fails_next : List ℕ → Bool
fails_next away = list_any (λ n. n == 1) away

-- the planned calls after one call
abbrev pub calls_after : List ℕ → List ℕ
calls_after away = map (λ n. n - 1) away

-- the next read at this offset is to fail
abbrev pub fails_next_at : ℕ → List (ℕ × ℕ) → Bool
fails_next_at offset away = list_any (λ read. (read.0 == offset) && (read.1 == 1)) away

-- a planned read after one read at this offset
abbrev pub read_after : ℕ → ℕ × ℕ → ℕ × ℕ
read_after offset read = (read.0, (if read.0 == offset then read.1 - 1 else read.1))

-- the planned reads after one read at this offset
abbrev pub reads_after : ℕ → List (ℕ × ℕ) → List (ℕ × ℕ)
reads_after offset away = map (read_after offset) away
