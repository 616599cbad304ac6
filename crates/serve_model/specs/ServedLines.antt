-- What the lines of one session do that runs beside others: each of its tries is answered by some epoch.
use Rattle.std.specs.Prelude.{◌≡◌, ℕ, false, List, [], ◌∷◌, ◌++◌, Option, Some, None}
use Rattle.round_model.specs.Views.{ViewSeen}
use Rattle.script_model.specs.declared.orders.Order.{Order}
use Rattle.script_model.specs.declared.orders.Order.TheVariants as orders
use Rattle.session_model.specs.Sessions.{SessionState, opened, with_view, printed_once}
use Rattle.session_model.specs.DoneRounds.{HasDone}
use Rattle.session_model.specs.Finishes.{Finishes, pairs_of}
use Rattle.session_model.specs.Freeing.{FreesAll}
use Rattle.text_model.specs.FrameText.{Frame}
use Rattle.run_model.specs.Worlds.{World, patch_count}
use Rattle.run_model.specs.Lines.{Did, DidOpen, DidView, DidStep, DidFrame, DidFree, DidClose, DidTurns, DidTell}
use Rattle.run_model.specs.LineTexts.{AreTextsOf}
use Rattle.serve_model.specs.ServedFrames.{IsServedFrame}

-- no epochs are told
abbrev pub no_epochs : ℕ → ℕ
no_epochs p = 0

-- the session makes steps until its round is done, in which these tries were answered so
abbrev pub FinishesWith : World → SessionState → List (ℕ × ℕ) → SessionState → Type 0
FinishesWith w s tries t = Finishes w.mesh false no_epochs s tries t

-- an order does this where its session is in a state, or isn't open, and leads it to another
pub data Serves (w : World) : Option SessionState → Order → Did → Option SessionState → Type 0 where
  ServesOpen : (i : ℕ) → Serves w None (orders.Open i) (DidOpen i) (Some (opened (patch_count w)))
  ServesView : (i : ℕ) (s : SessionState) (view : ViewSeen)
      → Serves w (Some s) (orders.View i view) (DidView i) (Some (with_view view s))
  ServesFrame : (i : ℕ) (s t : SessionState) (view : ViewSeen) (frame : Frame) (done : HasDone t) → s.view ≡ Some view
      → FinishesWith w s (pairs_of frame.tries) t → IsServedFrame w i t done.round frame
      → Serves w (Some s) (orders.Frame i) (DidFrame frame) (Some (printed_once t))
  ServesFree : (i unlocks : ℕ) (s t : SessionState) → FreesAll s unlocks t
      → Serves w (Some s) (orders.Free i) (DidFree i unlocks) (Some t)
  ServesClose : (i unlocks : ℕ) (s t : SessionState) → FreesAll s unlocks t
      → Serves w (Some s) (orders.Close i) (DidClose i unlocks) None

-- orders of one session do this, one after another
pub data ServesAll (w : World) : Option SessionState → List Order → List Did → Option SessionState → Type 0 where
  NoOrder : {a : Option SessionState} → ServesAll w a [] [] a
  OneOrder : {a b c : Option SessionState} {order : Order} {orders : List Order} {did : Did} {dids : List Did}
      → Serves w a order did b → ServesAll w b orders dids c → ServesAll w a (order ∷ orders) (did ∷ dids) c

-- the tries of a frame that was printed
abbrev pub printed_tries : Did → List (ℕ × ℕ)
printed_tries (DidFrame frame) = pairs_of frame.tries
printed_tries (DidOpen i) = []
printed_tries (DidView i) = []
printed_tries (DidStep i did) = []
printed_tries (DidFree i unlocks) = []
printed_tries (DidClose i unlocks) = []
printed_tries (DidTurns log) = []
printed_tries (DidTell tiers) = []

-- the tries of all frames, in their order
unfoldable pub all_tries : List Did → List (ℕ × ℕ)
all_tries [] = []
all_tries (did ∷ dids) = printed_tries did ++ all_tries dids

-- the text is what these orders of one session print, with these tries
pub record IsServedText (w : World) (a : Option SessionState) (orders : List Order) (tries : List (ℕ × ℕ))
    (text : List ℕ) (b : Option SessionState) : Type 0 where
  pub dids : List Did
  pub serves : ServesAll w a orders dids b
  pub tries_are : all_tries dids ≡ tries
  pub is : AreTextsOf dids text
