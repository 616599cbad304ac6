-- A sink in memory and its calls.
use Rattle.std.specs.Prelude.{ℕ, ◌-◌, ◌||◌, Bool, if◌then◌else◌, nat_le, List, ◌++◌, length, min, Option, None, Some}
use Rattle.view_outside.specs.Faults.{faults_after}
use Rattle.view_outside.specs.Planned.{fails_next, calls_after}

-- the bytes written, how many there is room for, how many a write takes at most, the calls that are to fail, and its
-- faults so far
pub record SinkState : Type 0 where
  pub written : List ℕ
  pub room : ℕ
  pub piece : ℕ
  pub fail_calls : List ℕ
  pub faults : ℕ

-- the next write is to fail, or the room is full
abbrev pub fails_write : SinkState → Bool
fails_write sink = fails_next sink.fail_calls || nat_le sink.room (length sink.written)

-- how many of so many bytes a write takes, if it doesn't fail: as many as make up a piece at most and have room
abbrev pub write_answer : SinkState → ℕ → Option ℕ
write_answer sink len =
    if fails_write sink then None else Some (min (min len sink.piece) (sink.room - length sink.written))

-- the sink after a write that took these bytes
abbrev pub after_write : SinkState → List ℕ → SinkState
after_write sink bytes = record sink {
  written = sink.written ++ bytes;
  fail_calls = calls_after sink.fail_calls;
  faults = faults_after (fails_write sink) sink.faults;
}
