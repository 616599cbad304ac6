-- Frames one after another: each line leaves the tiers, the epochs and the other sessions.
use Rattle.std.proofs.Common.{◌≡◌, ◌≢◌, ℕ, ◌+◌, true, List, [], ◌∷◌, Option, Some, refl, sym, ap, subst, ◌∙◌}
use Rattle.std.proofs.lemmas.Option.{same_Some}
use Rattle.script_model.specs.declared.orders.Order.{Order}
use Rattle.script_model.specs.declared.orders.Order.TheVariants as orders
use Rattle.session_model.specs.Sessions.{SessionState, printed_once, counted_from}
use Rattle.session_model.specs.Told.{SessionTold}
use Rattle.session_laws.specs.ToldLaws.{told_finishes}
use Rattle.session_model.specs.Finishes.{Finishes}
use Rattle.text_model.specs.FrameText.{Frame}
use Rattle.tier_model.specs.declared.turns.Turn.{Turn}
use Rattle.tier_model.specs.Chains.{Chain}
use Rattle.run_model.specs.Worlds.{World}
use Rattle.run_model.specs.States.{State, seated}
use Rattle.run_model.specs.Lines.{Did, DidFrame, DidTurns, frame_of, frame_with, Does, DoesFrame, DoesSettle, Runs, NoLine, OneLine}
use Rattle.run_laws.specs.SeatLaws.{put_other}
use Rattle.run_laws.specs.SessionReach.{seat_chain}
use Rattle.bench_laws.specs.SettledFrames.{IsFrameLine}
use Rattle.resumed_model.specs.Rejoins.{Viewer, joined_session}

-- ---- the first line

pub record FirstLine (w : World) (a : State) (order : Order) (orders : List Order) (dids : List Did)
    (last : State) : Type 0 where
  pub did : Did
  pub next : State
  pub does : Does w a order did next
  pub later : List Did
  pub runs : Runs w next orders later last
  pub are : dids ≡ did ∷ later

pub first_line : (w : World) (a : State) (order : Order) (orders : List Order) (dids : List Did) (last : State)
    → Runs w a (order ∷ orders) dids last → FirstLine w a order orders dids last
first_line w a order orders _ last (OneLine {b = b} {did = did} {dids = later} does rest) = record {
  did = did;
  next = b;
  does = does;
  later = later;
  runs = rest;
  are = refl;
}

pub no_line : (w : World) (a : State) (dids : List Did) (last : State) → Runs w a [] dids last → dids ≡ []
no_line w a _ last NoLine = refl

-- ---- what it did

pub record IsSettled (did : Did) : Type 0 where
  pub log : List (ℕ × Turn)
  pub is : did ≡ DidTurns log

pub settled_line : (w : World) (a : State) (did : Did) (b : State) → Does w a orders.Settle did b → IsSettled did
settled_line w a did b (DoesSettle {log = log} settles) = record { log = log; is = refl }

-- the line printed a frame of the session, and left the tiers, the epochs and the other sessions
pub record PrintsFrame (w : World) (a : State) (i : ℕ) (did : Did) (b : State) : Type 0 where
  pub frame : Frame
  pub is : did ≡ DidFrame frame
  pub chain : b.chain ≡ a.chain
  pub others : (j : ℕ) → j ≢ i → b.sessions j ≡ a.sessions j

other_seat : (a : State) (i j : ℕ) (seat : Option SessionState) → j ≢ i → (seated a i seat).sessions j ≡ a.sessions j
unfolding seated
other_seat a i j seat ne = put_other a.sessions i j seat ne

pub printed_line : (w : World) (a : State) (i : ℕ) (did : Did) (b : State) → Does w a (orders.Frame i) did b
    → PrintsFrame w a i did b
printed_line w a i did b (DoesFrame _ s t view tries done at viewed finishes) = record {
  frame = frame_of a.chain.tiers i t done.round;
  is = refl;
  chain = seat_chain a i (Some (printed_once t));
  others = λ j ne. other_seat a i j (Some (printed_once t)) ne;
}

-- ---- behind other frames

-- the line prints what it would print before them
pub line_before : (w : World) (a b : State) (i : ℕ) (frame : Frame) → b.chain ≡ a.chain → b.sessions i ≡ a.sessions i
    → IsFrameLine w b i frame → IsFrameLine w a i frame
line_before w a b i frame chain seat line = record {
  s = line.s;
  at = sym seat ∙ line.at;
  view = line.view;
  viewed = line.viewed;
  t = line.t;
  tries = line.tries;
  finishes = subst (λ (c : Chain). Finishes w.mesh true c.epochs line.s line.tries line.t) chain line.finishes;
  done = line.done;
  is = ap (λ (c : Chain). frame_of c.tiers i line.t line.done.round) (sym chain) ∙ line.is;
}

-- ---- its number

frame_session : (w : World) (a : State) (i : ℕ) (frame : Frame) → IsFrameLine w a i frame → frame.session ≡ i
unfolding frame_of frame_with
frame_session w a i frame line = ap (λ (f : Frame). f.session) (sym line.is)

frame_number : (w : World) (a : State) (i : ℕ) (frame : Frame) (line : IsFrameLine w a i frame)
    → frame.number ≡ line.s.frames + 1
unfolding frame_of frame_with
frame_number w a i frame line =
    ap (λ (f : Frame). f.number) (sym line.is)
    ∙ ap (λ (told : SessionTold). told.frames + 1)
    (told_finishes w.mesh true a.chain.epochs line.s line.tries line.t line.finishes)

joined_frames : (w : World) (v : Viewer) → (joined_session w v).frames ≡ v.frames
unfolding counted_from
joined_frames w v = refl

-- the frame is the next one of the session that joined
pub record IsNextFrame (v : Viewer) (frame : Frame) : Type 0 where
  pub session : frame.session ≡ v.session
  pub number : frame.number ≡ v.frames + 1

pub next_frame : (w : World) (a : State) (v : Viewer) (frame : Frame)
    → a.sessions v.session ≡ Some (joined_session w v) → IsFrameLine w a v.session frame → IsNextFrame v frame
next_frame w a v frame at line =
    let same : line.s ≡ joined_session w v = same_Some line.s (joined_session w v) (sym line.at ∙ at) in
    record {
      session = frame_session w a v.session frame line;
      number = frame_number w a v.session frame line ∙ ap (λ (s : SessionState). s.frames + 1) same
          ∙ ap (λ n. n + 1) (joined_frames w v);
    }
