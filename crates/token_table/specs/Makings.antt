-- What a new table is.
use Rattle.std.specs.Prelude.{◌≡◌, ℕ, ◌+◌, ◌<◌, List, length, Some, slice_get, slice_index}
use Rattle.atomic_table.specs.Seated.{TableId}
use Rattle.token_table.specs.declared.knowledge.Own.{Own}
use Rattle.token_table.specs.declared.making.Made.{Made}
use Rattle.token_table.specs.Known.{has, one_if}
use Rattle.token_table.specs.WordRule.{opened, opened_at}
use Rattle.token_table.specs.Changes.{newcomer}
use Rattle.token_table.specs.Seats.{SessionSeen, KeeperSeen}

-- a session's seat at a table
abbrev pub session_seen : TableId → Own → SessionSeen
session_seen table own = record { table = table; own = own }

-- a keeper's seat from which so many sessions were made
abbrev pub with_sessions : ℕ → KeeperSeen → KeeperSeen
with_sessions sessions keeper = record keeper { desk = record keeper.desk { made = sessions } }

-- by patch, 1 for the patches of the base and else 0
pub record ArePins (patches : ℕ) (base pins : List ℕ) : Type 0 where
  pub many : length pins ≡ patches
  pub each : (p : ℕ) → slice_index pins p ≡ one_if (has base p)

-- so many sessions' seats, whose numbers begin at 1, without uses and without tries
pub record AreNewcomers (table : TableId) (sessions : ℕ) (seats : List SessionSeen) : Type 0 where
  pub many : length seats ≡ sessions
  pub each : (i : ℕ) → i < sessions → slice_get seats i ≡ Some (session_seen table (newcomer (i + 1)))

-- by patch, one more than the start for the patches of the base and else the start
pub record AreStarts (start patches : ℕ) (base epochs : List ℕ) : Type 0 where
  pub many : length epochs ≡ patches
  pub each : (p : ℕ) → p < patches → slice_index epochs p ≡ start + one_if (has base p)

-- the table has so many words, the keeper the epochs and pins of the base, and each session its seat
pub record IsMade (patches : ℕ) (base : List ℕ) (sessions : ℕ) (made : Made) : Type 0 where
  pub words : made.table.words ≡ patches
  pub keeper : made.keeper.table ≡ made.table
  pub pins : ArePins patches base made.keeper.desk.pins
  pub desk : made.keeper.desk ≡ record (opened made.keeper.desk.pins) { made = sessions }
  pub seats : AreNewcomers made.table sessions made.sessions.items

-- the same of epochs that begin at an even start
pub record IsMadeAt (start patches : ℕ) (base : List ℕ) (sessions : ℕ) (made : Made) : Type 0 where
  pub words : made.table.words ≡ patches
  pub keeper : made.keeper.table ≡ made.table
  pub epochs : AreStarts start patches base made.keeper.desk.epochs
  pub desk : made.keeper.desk ≡ record (opened_at made.keeper.desk.epochs) { made = sessions }
  pub seats : AreNewcomers made.table sessions made.sessions.items
