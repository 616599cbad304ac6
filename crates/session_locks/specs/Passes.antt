-- The pass of a session: its uses and locks are the session's.
use Rattle.std.proofs.Common.{◌≡◌, ℕ, ◌≤◌, Bool, length, sym, ◌∙◌}
use Rattle.session_model.specs.Sessions.{SessionState, locks, uses}
use Rattle.session_model.specs.SessionStates.{IsLike, like_uses}
use Rattle.session_locks.specs.Sessions.{SessionSeen, with_state}

-- the pass is of the words, each patch of the mesh has a word, and what the pass uses and what it has locked is
-- what the session does
pub record IsPassOf (is_pass : Type 0) (patches : ℕ) (used locked : ℕ → Bool) (seen : SessionSeen) : Type 0 where
  pub of_words : is_pass
  pub many : length seen.mesh.index.fields ≤ patches
  pub uses_are : (p : ℕ) → used p ≡ uses seen.state p
  pub locks_are : (p : ℕ) → locked p ≡ locks seen.state p

-- two states of a session with the same uses and locks have one pass
pub record HasSameUses (s t : SessionState) : Type 0 where
  pub uses_are : (p : ℕ) → uses t p ≡ uses s p
  pub locks_are : (p : ℕ) → locks t p ≡ locks s p

pub pass_of_same : (is_pass : Type 0) (patches : ℕ) (used locked : ℕ → Bool) (seen : SessionSeen) (t : SessionState) → HasSameUses seen.state t → IsPassOf is_pass patches used locked seen → IsPassOf is_pass patches used locked (with_state seen t)
pass_of_same is_pass patches used locked seen t same pass = record {
  of_words = pass.of_words;
  many = pass.many;
  uses_are = λ p. pass.uses_are p ∙ sym (same.uses_are p);
  locks_are = λ p. pass.locks_are p ∙ sym (same.locks_are p);
}

pub same_of_like : (s t : SessionState) → IsLike s t → HasSameUses s t
same_of_like s t like = record { uses_are = like_uses s t like; locks_are = like.locks_are }
