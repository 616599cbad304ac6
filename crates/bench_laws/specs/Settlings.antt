-- When a settling in a run brings the detail that a view wants, and what the frame behind it shows.
use Rattle.std.specs.Prelude.{◌≡◌, ℕ, ◌+◌, ◌<◌, ◌≤◌, Bool, true, false, ◌&&◌, ◌||◌, List, Some, None, nat_lt, slice_get}
use Rattle.std.specs.List.{AllByRecursion}
use Rattle.std.specs.Option.{option_map_or}
use Rattle.file_model.specs.Lists.{BodyLists}
use Rattle.round_model.specs.Rounds.{has, round_of}
use Rattle.round_model.specs.Views.{ViewSeen, view_rules}
use Rattle.round_laws.specs.Among.{is_among}
use Rattle.round_laws.specs.Cuts.{IsRootOrWanted}
use Rattle.script_model.specs.declared.orders.Order.TheVariants as orders
use Rattle.session_model.specs.Sessions.{SessionState}
use Rattle.session_model.specs.SessionStates.{unprinted_round}
use Rattle.text_model.specs.FrameText.{Frame}
use Rattle.token_words.specs.declared.keeping.TheConstants.{LAST_EPOCH}
use Rattle.token_words.specs.Sessions.{session_count}
use Rattle.tier_model.specs.Places.{is_marked}
use Rattle.tier_model.specs.Tiers.{TierState}
use Rattle.tier_model.specs.Chains.{is_top}
use Rattle.detail_laws.specs.Needs.{KeepsBase, needed_bytes}
use Rattle.round_laws.specs.Wanted.{FitsWanted}
use Rattle.run_model.specs.Worlds.{World, patch_count}
use Rattle.run_model.specs.States.{State, board_of}
use Rattle.run_model.specs.RunTexts.{StoreOutcome, GaveBody}
use Rattle.run_laws.specs.PrintedFrames.{told_file, ShowsRound}

-- the store gave a body at each fetch
abbrev pub NeverFails : List StoreOutcome → Type 0
NeverFails outcomes = AllByRecursion (λ (o : StoreOutcome). o ≡ GaveBody) outcomes

-- a session uses the patch, which counts in the top tier alone
abbrev pub in_use : State → ℕ → ℕ → Bool
in_use a k p = is_top k && nat_lt 0 (session_count (λ i. a.users i p))

-- tier k passed the patch over
abbrev pub was_passed : State → ℕ → ℕ → Bool
was_passed a k p = option_map_or (λ (t : TierState). is_marked t.passed p) (slice_get a.chain.tiers k) false

abbrev pub passed_or_used : State → ℕ → ℕ → Bool
passed_or_used a k p = was_passed a k p || in_use a k p

-- in each tier the pinned patches are base patches, and no other base patch is held or comes
abbrev pub KeepsBases : State → Type 0
KeepsBases a = (k : ℕ) (t : TierState) → slice_get a.chain.tiers k ≡ Some t → KeepsBase t

-- each tier has room for all that is wished, passed over or in use beside its pins, nothing is aside, and no epoch is
-- among the last three
pub record IsReadyToSettle (w : World) (a : State) : Type 0 where
  pub room : (k : ℕ) (t : TierState) → slice_get a.chain.tiers k ≡ Some t → needed_bytes t (board_of w a).wish (passed_or_used a k) ≤ t.budget
  pub none_aside : (k : ℕ) (t : TierState) → slice_get a.chain.tiers k ≡ Some t → (p : ℕ) → is_marked t.aside p ≡ false
  pub low : (p : ℕ) → p < patch_count w → a.chain.epochs p + 2 < LAST_EPOCH

-- the session is open with this view and no round that is unprinted, and the frames of the root and the first
-- wanted nodes, however many, are within the view's limit
pub record IsReadyToShow (w : World) (a : State) (i : ℕ) (view : ViewSeen) : Type 0 where
  pub session : SessionState
  pub at : a.sessions i ≡ Some session
  pub viewed : session.view ≡ Some view
  pub fresh : unprinted_round session ≡ None
  pub fits : FitsWanted (view_rules view w.mesh)

-- the frame shows a whole round of the view, whose cut is exactly the root and the nodes, other than root and
-- sinks, that the view wants
pub record ShowsWanted (w : World) (bodies : List BodyLists) (view : ViewSeen) (frame : Frame) : Type 0 where
  pub shows : ShowsRound (told_file w bodies) (view_rules view w.mesh) frame
  pub joined : (v : ℕ) → has (round_of (view_rules view w.mesh) shows.epochs).set v ≡ true → IsRootOrWanted (view_rules view w.mesh) v
  pub all_joined : (v : ℕ) → IsRootOrWanted (view_rules view w.mesh) v → has (round_of (view_rules view w.mesh) shows.epochs).set v ≡ true
  pub listed : (v : ℕ) → is_among frame.cut v ≡ true → IsRootOrWanted (view_rules view w.mesh) v
  pub all_listed : (v : ℕ) → IsRootOrWanted (view_rules view w.mesh) v → is_among frame.cut v ≡ true
