-- A session: its view, its round, the locks that are left over from earlier rounds, a refused try that
-- isn't withdrawn yet, and how many frames were printed.
use Rattle.std.specs.Prelude.{ℕ, ◌+◌, ◌==◌, Bool, true, false, ◌||◌, List, length, map, replicate, Option, Some, None, slice_index_or, slice_set, if◌then◌else◌}
use Rattle.std.specs.List.{range_with_len, position}
use Rattle.std.specs.Option.{option_map_or}
use Rattle.round_model.specs.Views.{ViewSeen}
use Rattle.round_model.specs.Refiners.{Refining}
use Rattle.session_model.specs.Locks.{round_locks}

pub record SessionState : Type 0 where
  pub view : Option ViewSeen
  pub round : Option Refining
  pub printed : Bool
  pub leftover : List Bool
  pub flight : Option ℕ
  pub frames : ℕ

-- an old lock of the patch is left over
abbrev pub is_left_over : SessionState → ℕ → Bool
is_left_over s p = slice_index_or s.leftover p false

-- the patches that are locked: the old ones, and those of the round
abbrev pub locks : SessionState → ℕ → Bool
locks s p = is_left_over s p || option_map_or (λ (r : Refining). round_locks r p) s.round false

-- the refused try in flight is of the patch
abbrev pub is_in_flight : Option ℕ → ℕ → Bool
is_in_flight flight p = option_map_or (λ (q : ℕ). q == p) flight false

-- the patches that are used: those that are locked, and the one whose refused try is in flight
abbrev pub uses : SessionState → ℕ → Bool
uses s p = locks s p || is_in_flight s.flight p

-- the least patch with an old lock
unfoldable pub least_old : SessionState → Option ℕ
least_old s = position (λ (old : Bool). old) s.leftover

-- a session over so many patches, as it opens
unfoldable pub opened : ℕ → SessionState
opened patches = record { view = None; round = None; printed = false; leftover = replicate patches false; flight = None; frames = 0 }

-- the session without its round, whose locks are old ones now
unfoldable pub round_ended : SessionState → SessionState
round_ended s = record { view = s.view; round = None; printed = false; leftover = map (locks s) (range_with_len 0 (length s.leftover)); flight = s.flight; frames = s.frames }

-- a round that was printed ends
unfoldable pub settled : SessionState → SessionState
settled s = if s.printed then round_ended s else s

-- a view is set, which ends the round
unfoldable pub with_view : ViewSeen → SessionState → SessionState
with_view view s = record (round_ended s) { view = Some view }

-- the round was printed as one more frame
unfoldable pub printed_once : SessionState → SessionState
printed_once s = record s { printed = true; frames = s.frames + 1 }

-- the session counts its frames on from this number
unfoldable pub counted_from : ℕ → SessionState → SessionState
counted_from frames s = record s { frames = frames }

-- the refused try was withdrawn
abbrev pub without_flight : SessionState → SessionState
without_flight s = record s { flight = None }

-- the old lock of the patch was given back
abbrev pub without_old : SessionState → ℕ → SessionState
without_old s p = record s { leftover = slice_set s.leftover p false }
