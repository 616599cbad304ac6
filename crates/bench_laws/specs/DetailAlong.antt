-- Along a run: what a frame right behind a settling shows.
use Rattle.std.proofs.Common.{◌≡◌, ℕ, List, subst}
use Rattle.file_model.specs.Lists.{BodyLists}
use Rattle.round_model.specs.Views.{ViewSeen}
use Rattle.script_model.specs.declared.orders.Order.{Order}
use Rattle.script_model.specs.declared.orders.Order.TheVariants as orders
use Rattle.text_model.specs.FrameText.{Frame}
use Rattle.tier_model.specs.declared.turns.Turn.{Turn}
use Rattle.run_model.specs.Worlds.{World, IsWorld, HoldsBase}
use Rattle.run_model.specs.States.{State}
use Rattle.run_model.specs.Safe.{IsSafe}
use Rattle.run_model.specs.Kept.{IsKept}
use Rattle.run_model.specs.Lines.{Did, DidFrame, DidTurns, Does, Runs, NoLine, OneLine}
use Rattle.run_model.specs.RunTexts.{turn_outcomes, IsOpening}
use Rattle.run_laws.specs.PrintedFrames.{IsTold}
use Rattle.run_laws.specs.KeptLaws.{does_kept}
use Rattle.run_laws.specs.RunLaws.{does_keeps_safe, opened_is_safe}
use Rattle.bench_laws.specs.Settlings.{NeverFails, KeepsBases, IsReadyToSettle, IsReadyToShow, ShowsWanted}
use Rattle.bench_laws.specs.BaseKept.{does_keeps_base, opening_keeps_base, opening_keeps_kept}
use Rattle.bench_laws.specs.SettledFrames.{settle_line, frame_line, shows_wanted}

-- where a line was a settling over a store that never failed, from a state that was ready for it, and the next line is a
-- frame of a session whose view could be shown then, the frame shows all that the view wants and nothing else
abbrev pub ShowsDetail : World → List BodyLists → State → Order → Did → Order → Did → Type 0
ShowsDetail w bodies a order did next told =
    (log : List (ℕ × Turn)) (i : ℕ) (view : ViewSeen) (frame : Frame)
    → order ≡ orders.Settle → did ≡ DidTurns log → next ≡ orders.Frame i → told ≡ DidFrame frame
    → IsReadyToSettle w a → NeverFails (turn_outcomes w log) → IsReadyToShow w a i view → ShowsWanted w bodies view frame

-- the same of a line and the first of those behind it
abbrev pub ShowsNextDetail : (w : World) (bodies : List BodyLists) (a : State) (order : Order) (did : Did) (b c : State)
    (lines : List Order) (dids : List Did) → Runs w b lines dids c → Type 0
ShowsNextDetail w bodies a order did b c _ _ NoLine = Unit {0}
ShowsNextDetail w bodies a order did b c _ _ (OneLine {order = next} {did = told} does rest) = ShowsDetail w bodies a order did next told

-- the same of each two lines of a run
abbrev pub DetailAlong : (w : World) (bodies : List BodyLists) (a b : State) (lines : List Order) (dids : List Did)
    → Runs w a lines dids b → Type 0
DetailAlong w bodies a b _ _ NoLine = Unit {0}
DetailAlong w bodies a c _ _ (OneLine {b = b} {order = order} {orders = lines} {did = did} {dids = dids} does rest) =
    ShowsNextDetail w bodies a order did b c lines dids rest × DetailAlong w bodies b c lines dids rest

module _ (w : World) (bodies : List BodyLists) (is_told : IsTold w bodies) (world : IsWorld w) where
  shows_detail : (a b c : State) (order next : Order) (did told : Did) → IsSafe w a → IsKept w a → KeepsBases a
      → Does w a order did b → Does w b next told c → ShowsDetail w bodies a order did next told
  shows_detail a b c order next did told safe kept base settles prints =
      λ log i view frame is_settle is_log is_frame is_printed ready never show.
      let settled : Does w a orders.Settle (DidTurns log) b =
      subst (λ (d : Did). Does w a orders.Settle d b) is_log (subst (λ (o : Order). Does w a o did b) is_settle settles) in
      let printed : Does w b (orders.Frame i) (DidFrame frame) c =
      subst (λ (d : Did). Does w b (orders.Frame i) d c) is_printed (subst (λ (o : Order). Does w b o told c) is_frame prints) in
      shows_wanted w world a safe kept base ready i view show bodies is_told b log (settle_line w a b log settled) never frame
      (frame_line w b i frame c printed)

  shows_next_detail : (a b c : State) (order : Order) (did : Did) (lines : List Order) (dids : List Did) → IsSafe w a
      → IsKept w a → KeepsBases a → Does w a order did b → (rest : Runs w b lines dids c)
      → ShowsNextDetail w bodies a order did b c lines dids rest
  shows_next_detail a b c order did _ _ safe kept base does NoLine = tt
  shows_next_detail a b d order did _ _ safe kept base does (OneLine {b = c} {order = next} {did = told} prints rest) =
      shows_detail a b c order next did told safe kept base does prints

  detail_since : (a b : State) (lines : List Order) (dids : List Did) → IsSafe w a → IsKept w a → KeepsBases a
      → (runs : Runs w a lines dids b) → DetailAlong w bodies a b lines dids runs
  detail_since a b _ _ safe kept base NoLine = tt
  detail_since a c _ _ safe kept base (OneLine {b = b} {order = order} {orders = lines} {did = did} {dids = dids} does rest) = (
    shows_next_detail a b c order did lines dids safe kept base does rest,
    detail_since b c lines dids (does_keeps_safe w a b order did world safe does)
        (does_kept w a b order did world safe does kept) (does_keeps_base w a b order did world safe does base) rest,
  )

  -- a run from its opening on
  pub detail_along : HoldsBase w → (first last : State) (lines : List Order) (dids : List Did) → IsOpening w first
      → (runs : Runs w first lines dids last) → DetailAlong w bodies first last lines dids runs
  detail_along holds first last lines dids opens runs =
      detail_since first last lines dids (opened_is_safe w first world holds opens)
      (opening_keeps_kept w first opens) (opening_keeps_base w first opens) runs
