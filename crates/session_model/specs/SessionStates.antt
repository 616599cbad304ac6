-- What holds of a session over a mesh, and of sessions that have the same locks and the same tries.
use Rattle.std.proofs.Common.{◌≡◌, ℕ, ◌<◌, Bool, false, ◌||◌, cond, List, [], length, Option, Some, None, refl, ap, ◌∙◌}
use Rattle.std.specs.Option.{option_map_or}
use Rattle.file_model.specs.declared.fields.Try.{Try}
use Rattle.mesh_model.specs.Meshes.{MeshLists}
use Rattle.round_model.specs.Views.{ViewSeen, view_rules}
use Rattle.round_model.specs.Refiners.{Refining}
use Rattle.session_model.specs.GoingRounds.{IsRefining}
use Rattle.session_model.specs.Sessions.{SessionState, is_left_over, locks, is_in_flight, uses}

-- the session's round: it is of the session's view, and no old lock is left over
pub record IsRunning (mesh : MeshLists) (s : SessionState) (r : Refining) : Type 0 where
  pub refining : IsRefining r
  pub view : ViewSeen
  pub viewed : s.view ≡ Some view
  pub rules : r.rules ≡ view_rules view mesh
  pub no_old : (p : ℕ) → is_left_over s p ≡ false

-- the patch whose refused try is in flight isn't locked
pub record IsRefused (s : SessionState) (p : ℕ) : Type 0 where
  pub within : p < length s.leftover
  pub free : locks s p ≡ false

-- a session over the mesh
pub record IsSessionState (mesh : MeshLists) (s : SessionState) : Type 0 where
  pub many : length s.leftover ≡ length mesh.index.fields
  pub running : (r : Refining) → s.round ≡ Some r → IsRunning mesh s r
  pub flight : (p : ℕ) → s.flight ≡ Some p → IsRefused s p

-- the round that goes on: one that was printed doesn't
abbrev pub unprinted_round : SessionState → Option Refining
unprinted_round s = cond s.printed None s.round

-- the tries of the round that goes on
abbrev pub tries_of : SessionState → List Try
tries_of s = option_map_or (λ (r : Refining). r.tries) (unprinted_round s) []

-- the second session has the view, the locks and the refused try of the first
pub record IsLike (s t : SessionState) : Type 0 where
  pub view : t.view ≡ s.view
  pub many : length t.leftover ≡ length s.leftover
  pub locks_are : (p : ℕ) → locks t p ≡ locks s p
  pub flight : t.flight ≡ s.flight

pub like_itself : (s : SessionState) → IsLike s s
like_itself s = record { view = refl; many = refl; locks_are = λ p. refl; flight = refl }

pub like_uses : (s t : SessionState) → IsLike s t → (p : ℕ) → uses t p ≡ uses s p
like_uses s t like p = ap (λ (b : Bool). b || is_in_flight t.flight p) (like.locks_are p) ∙ ap (λ (o : Option ℕ). locks s p || is_in_flight o p) like.flight
