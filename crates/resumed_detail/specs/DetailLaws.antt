-- The frames behind a settling from tiers at rest show what their views want.
use Rattle.std.proofs.Common.{◌≡◌, ◌≢◌, ℕ, List, [], ◌∷◌, length, map, refl, sym, ap, subst, ◌∙◌}
use Rattle.std.specs.List.{AllByRecursion}
use Rattle.file_model.specs.Lists.{BodyLists}
use Rattle.script_model.specs.declared.orders.Order.TheVariants as orders
use Rattle.text_model.specs.FrameText.{Frame}
use Rattle.tier_model.specs.declared.turns.Turn.{Turn}
use Rattle.tier_model.specs.Tiers.{TierState}
use Rattle.run_model.specs.Worlds.{World, IsWorld}
use Rattle.run_model.specs.States.{State}
use Rattle.run_model.specs.Lines.{Did, DidFrame, DidTurns, SettlesTo, Does, Runs}
use Rattle.run_model.specs.RunTexts.{turn_outcomes}
use Rattle.run_laws.specs.PrintedFrames.{IsTold}
use Rattle.bench_laws.specs.Settlings.{NeverFails, KeepsBases, IsReadyToSettle}
use Rattle.bench_laws.specs.SettledFrames.{IsFrameLine, frame_line, settle_line, settled, shows_wanted}
use Rattle.resumed_model.specs.Resting.{resting, AreResting, GoesOn}
use Rattle.resumed_model.specs.Rejoins.{Viewer, Rejoin, settled_orders, AreApart, Stands}
use Rattle.resumed_model.specs.RejoinLaws.{all_stand, all_apart}
use Rattle.resumed_detail.specs.SettledViews.{HoldsWished, ShowsView, ShowViews, NoView, OneView, SettledShow, ThenShow}
use Rattle.resumed_detail.specs.RestLaws.{goes_on, bases_stay, is_ready, is_shown}
use Rattle.resumed_detail.specs.FrameLines.{first_line, no_line, settled_line, printed_line, line_before, next_frame}

-- these sessions are as they were
abbrev AreAsIn : State → State → List Viewer → Type 0
AreAsIn b c vs = AllByRecursion (λ (v : Viewer). c.sessions v.session ≡ b.sessions v.session) vs

still_as : (b c d : State) (i : ℕ) (vs : List Viewer) → ((j : ℕ) → j ≢ i → d.sessions j ≡ c.sessions j)
    → AllByRecursion (λ (u : Viewer). u.session ≢ i) vs → AreAsIn b c vs → AreAsIn b d vs
still_as b c d i [] others apart as_in = tt
still_as b c d i (v ∷ vs) others apart as_in =
    (others v.session apart.0 ∙ as_in.0, still_as b c d i vs others apart.1 as_in.1)

as_itself : (b : State) (vs : List Viewer) → AreAsIn b b vs
as_itself b [] = tt
as_itself b (v ∷ vs) = (refl, as_itself b vs)

module _ (w : World) (bodies : List BodyLists) (is_told : IsTold w bodies) (world : IsWorld w) where
  -- ---- the frames of a settling that was ready

  module _ (a : State) (goes : GoesOn w a) (bases : KeepsBases a) (ready : IsReadyToSettle w a) (b : State)
      (log : List (ℕ × Turn)) (settles : SettlesTo w (length w.budgets) a log b)
      (never : NeverFails (turn_outcomes w log)) where
    seats_stay : b.sessions ≡ a.sessions
    seats_stay = (settled w world a goes.safe goes.kept bases ready b log settles never).sessions

    shows_view : (v : Viewer) → Stands w a v → (frame : Frame) → IsFrameLine w b v.session frame
        → ShowsView w bodies v frame
    shows_view v stands frame line =
        let next = next_frame w b v frame (ap (λ seats. seats v.session) seats_stay ∙ stands.at) line in
        record {
          session = next.session;
          number = next.number;
          wanted = λ fits. shows_wanted w world a goes.safe goes.kept bases ready v.session v.view
              (is_shown w a v stands fits) bodies is_told b log settles never frame line;
        }

    show_views : (c last : State) (vs : List Viewer) (dids : List Did) → c.chain ≡ b.chain → AreAsIn b c vs
        → AllByRecursion (Stands w a) vs → AreApart vs
        → Runs w c (map (λ (v : Viewer). orders.Frame v.session) vs) dids last → ShowViews w bodies vs dids
    show_views c last [] dids chain as_in stand apart runs =
        subst (ShowViews w bodies []) (sym (no_line w c dids last runs)) NoView
    show_views c last (v ∷ vs) dids chain as_in stand apart runs =
        let line = first_line w c (orders.Frame v.session)
        (map (λ (u : Viewer). orders.Frame u.session) vs) dids last runs in
        let printed = printed_line w c v.session line.did line.next line.does in
        let does : Does w c (orders.Frame v.session) (DidFrame printed.frame) line.next =
        subst (λ (d : Did). Does w c (orders.Frame v.session) d line.next) printed.is line.does in
        let now = frame_line w c v.session printed.frame line.next does in
        let here = line_before w b c v.session printed.frame chain as_in.0 now in
        let rest = show_views line.next last vs line.later (printed.chain ∙ chain)
        (still_as b c line.next v.session vs printed.others apart.0 as_in.1) stand.1 apart.1 line.runs in
        subst (ShowViews w bodies (v ∷ vs)) (sym (line.are ∙ ap (λ (d : Did). d ∷ line.later) printed.is))
        (OneView v printed.frame (shows_view v stand.0 printed.frame here) rest)

  -- ---- from tiers at rest

  pub settled_show : (tiers : List TierState) (epochs : ℕ → ℕ) (vs : List Viewer) (a last : State) (dids : List Did)
      → AreResting w tiers epochs → KeepsBases (resting tiers epochs) → Rejoin w (resting tiers epochs) vs a
      → HoldsWished w a → Runs w a (settled_orders vs) dids last → SettledShow w bodies vs dids
  settled_show tiers epochs vs a last dids are bases joined holds runs =
      let line = first_line w a orders.Settle (map (λ (v : Viewer). orders.Frame v.session) vs) dids last runs in
      let turns = settled_line w a line.did line.next line.does in
      let does : Does w a orders.Settle (DidTurns turns.log) line.next =
      subst (λ (d : Did). Does w a orders.Settle d line.next) turns.is line.does in
      let b = line.next in
      subst (SettledShow w bodies vs) (sym (line.are ∙ ap (λ (d : Did). d ∷ line.later) turns.is))
      (ThenShow turns.log (λ never.
      show_views a (goes_on w tiers epochs are vs a joined world) (bases_stay w tiers epochs are vs a joined bases)
      (is_ready w tiers epochs are vs a joined holds) b turns.log (settle_line w a b turns.log does) never
      b last vs line.later refl (as_itself b vs) (all_stand w (resting tiers epochs) a vs joined)
      (all_apart w (resting tiers epochs) a vs joined) line.runs))
