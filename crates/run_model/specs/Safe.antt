-- Safe states.
use Rattle.std.specs.Prelude.{◌≡◌, ℕ, suc, ◌<◌, ◌≤◌, true, false, length, Some, None, slice_get}
use Rattle.file_model.specs.Lists.{SeenBody}
use Rattle.file_model.specs.Tries.{is_odd}
use Rattle.session_model.specs.Sessions.{SessionState, is_left_over, locks, uses}
use Rattle.session_model.specs.SessionStates.{IsSessionState}
use Rattle.tier_model.specs.Places.{is_marked, is_coming}
use Rattle.tier_model.specs.Tiers.{TierState, is_held, load, IsTier, IsMadeOf}
use Rattle.token_words.specs.declared.keeping.TheConstants.{LAST_EPOCH}
use Rattle.token_words.specs.Sessions.{IsSession}
use Rattle.run_model.specs.Worlds.{World, patch_count, is_base, IsFileBody, HasFileBodies}
use Rattle.run_model.specs.States.{State}

-- the top tier holds the patch, with its file's body
pub record IsHeldAtTop (w : World) (a : State) (p : ℕ) : Type 0 where
  pub top : TierState
  pub is_top : slice_get a.chain.tiers 0 ≡ Some top
  pub body : SeenBody
  pub holds : slice_get top.held p ≡ Some (Some body)
  pub of_file : IsFileBody w p body

-- tier k was made of the index, with the budget and the width that the world gives
pub record IsSetUp (w : World) (k : ℕ) (t : TierState) : Type 0 where
  pub made : IsMadeOf w.mesh.index t
  pub budget : slice_get w.budgets k ≡ Some t.budget
  pub width : t.width ≡ w.width

-- a safe state
pub record IsSafe (w : World) (a : State) : Type 0 where
  -- there is a tier for each budget, and each is a tier of the world
  pub many : length a.chain.tiers ≡ length w.budgets
  pub tiers : (k : ℕ) (t : TierState) → slice_get a.chain.tiers k ≡ Some t → IsTier t
  pub set_up : (k : ℕ) (t : TierState) → slice_get a.chain.tiers k ≡ Some t → IsSetUp w k t
  -- each open session has a number from 1 to 64, and is one over the mesh
  pub numbers : (i : ℕ) (s : SessionState) → a.sessions i ≡ Some s → IsSession i
  pub seats : (i : ℕ) (s : SessionState) → a.sessions i ≡ Some s → IsSessionState w.mesh s
  -- the top tier holds a patch exactly where its epoch is odd
  pub held_where_odd : (top : TierState) (p : ℕ) → slice_get a.chain.tiers 0 ≡ Some top → p < patch_count w → is_odd (a.chain.epochs p) ≡ is_held top p
  -- each patch that a session has locked is held in the top tier, with its file's body
  pub locked_are_held : (i : ℕ) (s : SessionState) (p : ℕ) → a.sessions i ≡ Some s → locks s p ≡ true → IsHeldAtTop w a p
  -- and so is each base patch
  pub base_is_held : (p : ℕ) → is_base w p ≡ true → IsHeldAtTop w a p
  -- each body that is held or came is the file's
  pub bodies : (k : ℕ) (t : TierState) → slice_get a.chain.tiers k ≡ Some t → HasFileBodies w t
  -- no tier's load is above its budget
  pub loads : (k : ℕ) (t : TierState) (budget : ℕ) → slice_get a.chain.tiers k ≡ Some t → slice_get w.budgets k ≡ Some budget → load t ≤ budget
  -- the sets are the uses of the open sessions, and no other session is in one
  pub sets_are_uses : (i : ℕ) (s : SessionState) (p : ℕ) → a.sessions i ≡ Some s → a.users i p ≡ uses s p
  pub no_other_sets : (i p : ℕ) → a.sessions i ≡ None → a.users i p ≡ false
  -- no patch that comes to a tier is held in it, and at the top its epoch isn't the last
  pub coming_not_held : (k : ℕ) (t : TierState) (p : ℕ) → slice_get a.chain.tiers k ≡ Some t → is_coming t.coming p ≡ true → is_held t p ≡ false
  pub coming_is_low : (top : TierState) (p : ℕ) → slice_get a.chain.tiers 0 ≡ Some top → is_coming top.coming p ≡ true → a.chain.epochs p < LAST_EPOCH
  -- the pinned patches of the top tier are the base patches, and no other tier has pins
  pub pins_are_base : (top : TierState) (p : ℕ) → slice_get a.chain.tiers 0 ≡ Some top → p < patch_count w → is_marked top.pinned p ≡ is_base w p
  pub no_other_pins : (k : ℕ) (t : TierState) (p : ℕ) → slice_get a.chain.tiers (suc k) ≡ Some t → is_marked t.pinned p ≡ false
  -- a session that has an old lock has no round, and a refused try in flight is of a patch that it hasn't locked
  pub old_or_round : (i : ℕ) (s : SessionState) (p : ℕ) → a.sessions i ≡ Some s → is_left_over s p ≡ true → s.round ≡ None
  pub flight_not_locked : (i : ℕ) (s : SessionState) (p : ℕ) → a.sessions i ≡ Some s → s.flight ≡ Some p → locks s p ≡ false
