-- The state that sessions and journals leave.
use Rattle.std.specs.Prelude.{◌≡◌, ℕ, ◌==◌, List, [], ◌∷◌, map, Option, Some, None, slice_get, if◌then◌else◌}
use Rattle.std.specs.Option.{option_map, option_and_then}
use Rattle.round_model.specs.Views.{ViewSeen}
use Rattle.session_model.specs.Sessions.{SessionState, opened, with_view, counted_from}
use Rattle.tier_model.specs.declared.turns.Turn.{Turn}
use Rattle.tier_model.specs.Tiers.{TierState}
use Rattle.tier_model.specs.Changes.{none_marked}
use Rattle.tier_model.specs.Counts.{AreCounted}
use Rattle.run_model.specs.Worlds.{World, patch_count}
use Rattle.run_model.specs.States.{State}
use Rattle.run_model.specs.Safe.{IsSafe}
use Rattle.run_model.specs.Kept.{IsKept}

-- a session that was served: its number, its tries, its text, and its state behind its last line, if it is open there
pub record ServedSession : Type 0 where
  pub number : ℕ
  pub tries : List (ℕ × ℕ)
  pub text : List ℕ
  pub left : Option SessionState

-- the state that session i was left in, if it is open
unfoldable pub left_of : List ServedSession → ℕ → Option SessionState
left_of [] i = None
left_of (s ∷ ss) i = if s.number == i then s.left else left_of ss i

-- a session that has this view, counts its frames on from there, and uses nothing
abbrev pub rested : ℕ → SessionState → Option SessionState
rested patches s = option_map (λ (view : ViewSeen). counted_from s.frames (with_view view (opened patches))) s.view

-- no patch was passed over or put aside
pub record IsCalm (t : TierState) : Type 0 where
  pub none_passed : t.passed ≡ none_marked t
  pub none_aside : t.aside ≡ none_marked t

-- sessions and journals leave the state. It is safe, and what is posted and wished is what lines of a run keep. Each
-- tier
-- has its journal and is calm, each epoch is how often the top journal has its patch come to be held or leave, and one
-- more
-- for a base patch, and the open sessions are those that were left with a view
pub record IsLeft (w : World) (sessions : List ServedSession) (journals : List (List Turn)) (a : State) : Type 0 where
  pub safe : IsSafe w a
  pub kept : IsKept w a
  pub journals_are : map (λ (t : TierState). t.journal) a.chain.tiers ≡ journals
  pub calm : (k : ℕ) (t : TierState) → slice_get a.chain.tiers k ≡ Some t → IsCalm t
  pub epochs : (top : TierState) → slice_get a.chain.tiers 0 ≡ Some top → AreCounted top a.chain.epochs
  pub sessions_are : (i : ℕ) → a.sessions i ≡ option_and_then (rested (patch_count w)) (left_of sessions i)
