-- What changes as one session takes steps, opens or closes.
use Rattle.std.specs.Prelude.{◌≡◌, ℕ, ◌-◌, List, length, Option, Some, slice_set}
use Rattle.session_model.specs.Sessions.{SessionState, locks}
use Rattle.token_words.specs.Changes.{Stays, ChangesOnly}
use Rattle.token_words.specs.PlainTokens.{epoch_in, is_pinned_in, is_user_in, is_locker_in}
use Rattle.token_words.specs.declared.entries.Entry.{Entry}
use Rattle.run_model.specs.States.{seat_uses}

-- there are as many words with the same epochs and pins, and only this session's sets may have changed
pub record KeepsWords (i : ℕ) (words now : List Entry) : Type 0 where
  pub many : length now ≡ length words
  pub epochs : Stays (epoch_in words) (epoch_in now)
  pub pins : Stays (is_pinned_in words) (is_pinned_in now)
  pub use_sets : ChangesOnly i (is_user_in words) (is_user_in now)
  pub lock_sets : ChangesOnly i (is_locker_in words) (is_locker_in now)

-- this stands at the session's seat now, the words say what it uses and has locked, and no other session has changed
pub record ChangesSeat (i : ℕ) (seat : Option SessionState) (words : List Entry) (sessions : List (Option SessionState)) (words_now : List Entry) (sessions_now : List (Option SessionState)) : Type 0 where
  pub seats : sessions_now ≡ slice_set sessions (i - 1) seat
  pub keeps : KeepsWords i words words_now
  pub uses : (p : ℕ) → is_user_in words_now i p ≡ seat_uses seat p
  pub locked : (s : SessionState) → seat ≡ Some s → (p : ℕ) → is_locker_in words_now i p ≡ locks s p
