-- What a settling from tiers at rest has room for, and what the frames behind it show.
use Rattle.std.specs.Prelude.{◌≡◌, ℕ, ◌+◌, ◌<◌, ◌≤◌, false, List, [], ◌∷◌, Some, slice_get}
use Rattle.file_model.specs.Lists.{BodyLists}
use Rattle.round_model.specs.Views.{view_rules}
use Rattle.round_laws.specs.Wanted.{FitsWanted}
use Rattle.text_model.specs.FrameText.{Frame}
use Rattle.token_words.specs.declared.keeping.TheConstants.{LAST_EPOCH}
use Rattle.tier_model.specs.declared.turns.Turn.{Turn}
use Rattle.tier_model.specs.Tiers.{TierState}
use Rattle.detail_laws.specs.Needs.{needed_bytes}
use Rattle.run_model.specs.Worlds.{World, patch_count}
use Rattle.run_model.specs.States.{State, board_of}
use Rattle.run_model.specs.Lines.{Did, DidFrame, DidTurns}
use Rattle.run_model.specs.RunTexts.{turn_outcomes}
use Rattle.bench_laws.specs.Settlings.{NeverFails, ShowsWanted}
use Rattle.resumed_model.specs.Rejoins.{Viewer}

-- each tier has room for all that is wished beside its pins, and no epoch is among the last three
pub record HoldsWished (w : World) (a : State) : Type 0 where
  pub room : (k : ℕ) (t : TierState) → slice_get a.chain.tiers k ≡ Some t
      → needed_bytes t (board_of w a).wish (λ p. false) ≤ t.budget
  pub low : (p : ℕ) → p < patch_count w → a.chain.epochs p + 2 < LAST_EPOCH

-- the frame is the session's next one, and where the frames of the root and the first wanted nodes, however many, are
-- within the view's limit, it shows all that the view wants and nothing else
pub record ShowsView (w : World) (bodies : List BodyLists) (v : Viewer) (frame : Frame) : Type 0 where
  pub session : frame.session ≡ v.session
  pub number : frame.number ≡ v.frames + 1
  pub wanted : FitsWanted (view_rules v.view w.mesh) → ShowsWanted w bodies v.view frame

-- a frame for each session, in their order
pub data ShowViews (w : World) (bodies : List BodyLists) : List Viewer → List Did → Type 0 where
  NoView : ShowViews w bodies [] []
  OneView : {vs : List Viewer} {dids : List Did} (v : Viewer) (frame : Frame) → ShowsView w bodies v frame
      → ShowViews w bodies vs dids → ShowViews w bodies (v ∷ vs) (DidFrame frame ∷ dids)

-- all tiers settled, and where the store never failed in it, the frames show their views
pub data SettledShow (w : World) (bodies : List BodyLists) (vs : List Viewer) : List Did → Type 0 where
  ThenShow : {dids : List Did} (log : List (ℕ × Turn))
      → (NeverFails (turn_outcomes w log) → ShowViews w bodies vs dids) → SettledShow w bodies vs (DidTurns log ∷ dids)
