-- What the steps of one session do, where its pass is one of the plain words.
use Rattle.std.specs.Prelude.{◌≡◌, ℕ, true, false, List, None}
use Rattle.token_words.specs.declared.entries.Entry.{Entry}
use Rattle.token_words.specs.declared.plain_words.PlainTokens.{PlainTokens}
use Rattle.token_words.specs.PlainTokens.{words_seen, epoch_in, session_of}
use Rattle.session_model.specs.declared.steps.Stepped.{Stepped}
use Rattle.session_model.specs.Sessions.{SessionState, is_left_over, settled}
use Rattle.session_model.specs.Steps.{stepped, step, IsOfEpochs}
use Rattle.session_model.specs.DoneRounds.{HasDone}
use Rattle.session_model.specs.Finishes.{Steps, Finishes}
use Rattle.session_locks.specs.Sessions.{IsSession}
use Rattle.session_seats.specs.declared.seat.Seat.{Seat}
use Rattle.session_seats.specs.SeatChanges.{KeepsWords}
use Rattle.session_seats.specs.SeatParts.{seat_state, HasPass}

-- the session goes on with its number, mesh and pass, and only its own sets may have changed
pub record KeepsSeat (words : PlainTokens) (old : Seat) (now : PlainTokens) (new : Seat) : Type 0 where
  pub has_pass : HasPass now new
  pub is : IsSession new.session
  pub over : new.session.mesh ≡ old.session.mesh
  pub number : new.session.number ≡ old.session.number
  pub pass : session_of new.pass ≡ session_of old.pass
  pub keeps : KeepsWords (session_of old.pass) (words_seen words) (words_seen now)

-- one step, in which a try is answered by its patch's epoch
pub record SeatSteps (words : List Entry) (old : Seat) (did : Stepped) (new : Seat) : Type 0 where
  pub epoch : ℕ
  pub is : stepped did (seat_state new) ≡ step old.session.mesh (seat_state old) epoch
  pub of_epochs : IsOfEpochs (epoch_in words) did

-- a printed round ended, there is no round, and nothing is locked or in flight
pub record SeatStops (old new : Seat) : Type 0 where
  pub is : seat_state new ≡ settled (seat_state old)
  pub no_round : (seat_state new).round ≡ None
  pub no_old : (p : ℕ) → is_left_over (seat_state new) p ≡ false
  pub no_flight : (seat_state new).flight ≡ None

-- steps until the round was done
pub record SeatFinishes (words : List Entry) (old new : Seat) : Type 0 where
  pub tries : List (ℕ × ℕ)
  pub finishes : Finishes old.session.mesh true (epoch_in words) (seat_state old) tries (seat_state new)
  pub done : HasDone (seat_state new)

-- steps, and then a printed round ended, where another was to begin
pub record SeatStopsAfter (words : List Entry) (old new : Seat) : Type 0 where
  pub tries : List (ℕ × ℕ)
  pub last : SessionState
  pub steps : Steps old.session.mesh true (epoch_in words) (seat_state old) tries last
  pub is : seat_state new ≡ settled last
  pub no_round : (seat_state new).round ≡ None
  pub no_old : (p : ℕ) → is_left_over (seat_state new) p ≡ false
  pub no_flight : (seat_state new).flight ≡ None
