-- What callers see of a reader of lines.
use Rattle.std.specs.Prelude.{ℕ, List}

-- the bytes that were read and belong to no line yet, and the last line
pub record LineSeen : Type 0 where
  pub kept : List ℕ
  pub line : List ℕ
