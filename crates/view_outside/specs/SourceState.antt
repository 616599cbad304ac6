-- A source in memory and its calls.
use Rattle.std.specs.Prelude.{ℕ, if◌then◌else◌, List, length, drop, min, Option, None, Some}
use Rattle.view_outside.specs.Faults.{faults_after}
use Rattle.view_outside.specs.Planned.{fails_next, calls_after}

-- the bytes still to be read, how many a read gives at most, the calls that are to fail, and its faults so far
pub record SourceState : Type 0 where
  pub rest : List ℕ
  pub piece : ℕ
  pub fail_calls : List ℕ
  pub faults : ℕ

-- how many bytes a read gives, if it doesn't fail: as many as are left, fit and make up a piece at most
abbrev pub read_answer : SourceState → ℕ → Option ℕ
read_answer source room =
    if fails_next source.fail_calls then None else Some (min (length source.rest) (min room source.piece))

-- the source after a read that gave n bytes
abbrev pub after_read : SourceState → ℕ → SourceState
after_read source n = record source {
  rest = drop n source.rest;
  fail_calls = calls_after source.fail_calls;
  faults = faults_after (fails_next source.fail_calls) source.faults;
}
