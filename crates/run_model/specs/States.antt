-- The state of a run, and its changes.
use Rattle.std.specs.Prelude.{ℕ, ◌+◌, ◌==◌, Bool, false, List, map, Option, Some, None, slice_set, if◌then◌else◌}
use Rattle.std.specs.List.{range_with_len}
use Rattle.file_model.specs.Lists.{SeenBody}
use Rattle.round_model.specs.Order.{Rules}
use Rattle.round_model.specs.Views.{ViewSeen, view_rules}
use Rattle.token_words.specs.declared.session_sets.TheConstants.{SESSIONS}
use Rattle.session_model.specs.Sessions.{SessionState, uses}
use Rattle.tier_model.specs.declared.turns.Turn.{Turn}
use Rattle.tier_model.specs.Tiers.{TierState}
use Rattle.tier_model.specs.Ranks.{Posted, wish_of}
use Rattle.tier_model.specs.Turns.{Board}
use Rattle.tier_model.specs.Chains.{Chain, opened, epochs_then}
use Rattle.run_model.specs.Worlds.{World}

-- the tiers with the epochs of the top tier's patches; by the number of a session which patches it uses, the
-- session if it is open, and the view that it posted; and a version that rises as views are posted and taken off
pub record State : Type 0 where
  pub chain : Chain
  pub users : ℕ → ℕ → Bool
  pub sessions : ℕ → Option SessionState
  pub posted : ℕ → Option Posted
  pub version : ℕ

-- a number gets a value, and each other number keeps its own
abbrev pub put : {A : Type 0} → (ℕ → A) → ℕ → A → ℕ → A
put f i x j = if j == i then x else f j

-- ---- the board

-- the views that sessions posted, session 1's first
abbrev pub posted_views : (ℕ → Option Posted) → List (Option Posted)
posted_views posted = map posted (range_with_len 1 SESSIONS)

-- the wishes of the posted views, with their version
unfoldable pub board_of : World → State → Board
board_of w a = record { wish = wish_of w.mesh.index.fields (posted_views a.posted); version = a.version }

-- what a view posts: each node's score, and the score that a wanted node is above
abbrev pub posting_of : Rules → Posted
posting_of rules = record { scores = rules.scores; threshold = rules.threshold }

abbrev pub posted_by : World → ViewSeen → Posted
posted_by w view = posting_of (view_rules view w.mesh)

-- ---- changes

-- the patches that a session uses; where none is open, none
abbrev pub seat_uses : Option SessionState → ℕ → Bool
seat_uses None p = false
seat_uses (Some s) p = uses s p

-- the session of this number is in this state, or isn't open
unfoldable pub seated : State → ℕ → Option SessionState → State
seated a i session = record a { users = put a.users i (seat_uses session); sessions = put a.sessions i session }

-- the session's view is posted, or taken off
unfoldable pub posting : State → ℕ → Option Posted → State
posting a i view = record a { posted = put a.posted i view; version = a.version + 1 }

-- tier k is in this state after a turn with this answer
unfoldable pub moved : State → ℕ → Turn → TierState → State
moved a k answer after = record a { chain = record { tiers = slice_set a.chain.tiers k after; epochs = epochs_then k answer a.chain.epochs } }

-- ---- the opening

-- the base patches are held in the top tier, with these bodies; no session is open, and no view is posted
unfoldable pub opening : World → (ℕ → SeenBody) → State
opening w body = record {
  chain = opened w.mesh.index body w.budgets w.width;
  users = λ i p. false;
  sessions = λ i. None;
  posted = λ i. None;
  version = 0;
}
