-- A store in memory and its calls.
use Rattle.std.specs.Prelude.{ℕ, ◌||◌, Bool, if◌then◌else◌, List, length, drop, min, Option, None, option_map}
use Rattle.view_outside.specs.Files.{Named, number_named, bytes_at}
use Rattle.view_outside.specs.Faults.{faults_after}
use Rattle.view_outside.specs.Planned.{fails_next, calls_after, fails_next_at, reads_after}
use Rattle.view_outside.specs.Taken.{taken_after}

-- its files, the reads and calls that are to fail, its faults so far, and how many bytes it has handed over
pub record StoreState : Type 0 where
  pub files : List Named
  pub fail_reads : List (ℕ × ℕ)
  pub fail_calls : List ℕ
  pub faults : ℕ
  pub taken : ℕ

-- what a look-up answers, if it doesn't fail
abbrev pub find_answer : StoreState → List ℕ → Option ℕ
find_answer store name = if fails_next store.fail_calls then None else number_named store.files name

-- the store after a look-up
abbrev pub after_find : StoreState → StoreState
after_find store = record store {
  fail_calls = calls_after store.fail_calls;
  faults = faults_after (fails_next store.fail_calls) store.faults;
}

-- the next call is to fail, if it is a read at this offset
abbrev pub fails_read : StoreState → ℕ → Bool
fails_read store offset = fails_next store.fail_calls || fails_next_at offset store.fail_reads

-- how many bytes a read hands over, if it doesn't fail: as many as are there and fit
abbrev pub read_answer : StoreState → ℕ → ℕ → ℕ → Option ℕ
read_answer store file offset room =
    if fails_read store offset then None
    else option_map (λ bytes. min (length (drop offset bytes)) room) (bytes_at store.files file)

-- the store after a read at this offset that handed over n bytes
abbrev pub after_read : StoreState → ℕ → ℕ → StoreState
after_read store offset n = record store {
  fail_reads = reads_after offset store.fail_reads;
  fail_calls = calls_after store.fail_calls;
  faults = faults_after (fails_read store offset) store.faults;
  taken = taken_after store.taken n;
}
