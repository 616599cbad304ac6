-- A session that opened and has a view: it uses nothing, and its pass is one that uses nothing.
use Rattle.std.proofs.Common.{◌≡◌, ℕ, ◌≤◌, Bool, false, ◌||◌, length, Some, sym, ap, subst, ◌∙◌}
use Rattle.round_model.specs.Views.{ViewSeen}
use Rattle.token_words.specs.Sessions.{IsSession}
use Rattle.token_words.specs.PlainTokens.{patch_count, is_user, is_locker, IsUnused}
use Rattle.token_words.specs.declared.plain_words.PlainTokens.{PlainTokens}
use Rattle.session_model.specs.Sessions.{SessionState, locks, uses, opened, with_view}
use Rattle.session_laws.specs.StateLaws.{none_left_over, opened_uses}
use Rattle.session_locks.specs.Sessions.{SessionSeen, with_state}
use Rattle.session_locks.specs.Passes.{IsPassOf, HasSameUses}

opened_locks : (patches p : ℕ) → locks (opened patches) p ≡ false
unfolding opened
opened_locks patches p = ap (λ (t : Bool). t || false) (none_left_over patches p)

-- of a session that opened
pub opened_pass : (tokens : PlainTokens) (session patches : ℕ) (seen : SessionSeen) → seen.state ≡ opened patches → IsSession session → length seen.mesh.index.fields ≤ patch_count tokens → IsUnused tokens → IsPassOf (IsSession session) (patch_count tokens) (is_user tokens session) (is_locker tokens session) seen
opened_pass tokens session patches seen is of_words many unused = record {
  of_words = of_words;
  many = many;
  uses_are = λ p. unused.users session p ∙ sym (ap (λ (s : SessionState). uses s p) is ∙ opened_uses patches p);
  locks_are = λ p. unused.lockers session p ∙ sym (ap (λ (s : SessionState). locks s p) is ∙ opened_locks patches p);
}

-- a view was set
module _ (old new : SessionSeen) (view : ViewSeen) (is : new ≡ with_state old (with_view view old.state)) where
  pub viewed : (seen : ViewSeen) × (new.state.view ≡ Some seen)
  unfolding with_view
  viewed = (view, ap (λ (s : SessionSeen). s.state.view) is)

  pub viewed_pass : (is_pass : Type 0) (patches : ℕ) (used locked : ℕ → Bool) → HasSameUses old.state new.state → IsPassOf is_pass patches used locked old → IsPassOf is_pass patches used locked new
  viewed_pass is_pass patches used locked same pass = record {
    of_words = pass.of_words;
    many = subst (λ (s : SessionSeen). length s.mesh.index.fields ≤ patches) (sym is) pass.many;
    uses_are = λ p. pass.uses_are p ∙ sym (same.uses_are p);
    locks_are = λ p. pass.locks_are p ∙ sym (same.locks_are p);
  }
