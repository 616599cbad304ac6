-- What a session does for one line of its own serves the line's order.
use Rattle.std.proofs.Common.{◌≡◌, ℕ, ◌≤◌, true, false, List, [], ◌∷◌, length, codes, Some, None, Ok, refl, sym, ap, subst, ◌∙◌}
use Rattle.std.specs.Fmt.{decimal}
use Rattle.atomic_table.specs.Seated.{TableId}
use Rattle.mesh_model.specs.Meshes.{MeshLists}
use Rattle.round_model.specs.Views.{ViewSeen}
use Rattle.script_model.specs.declared.orders.Order.TheVariants as orders
use Rattle.session_model.specs.Sessions.{opened, with_view, printed_once}
use Rattle.session_locks.specs.Sessions.{SessionSeen, session_of, with_state, IsSession}
use Rattle.session_locks.specs.Passes.{HasSameUses}
use Rattle.session_locks.specs.Taken.{TakesSteps, TakesFreeSteps}
use Rattle.text_model.specs.Lines.{Adds}
use Rattle.token_table.specs.Seats.{SessionSeen as SeatSeen, IsIdle}
use Rattle.run_model.specs.Worlds.{World}
use Rattle.run_model.specs.LineTexts.{session_line}
use Rattle.serve_model.specs.ServedLines.{no_epochs}
use Rattle.shared_sessions.specs.SharedSeats.{HasSeat, IsSeated, IsResting}
use Rattle.shared_sessions.specs.SeatLaws.{opened_seated, changed_seated, rests_opened, rests_viewed, rests_printed, rests_freed, serves_open, serves_view, serves_free, serves_close}
use Rattle.shared_sessions.specs.ServedOrders.{ServesOne}
use Rattle.shared_sessions.specs.FrameLines.{ShowsNext, FinishesRound, serves_frame}
use Rattle.shared_sessions.specs.SessionLines.{ServesLine}

pub finishes_round : {T E : Type 0} (x : T) (tries now : List (ℕ × ℕ)) (old mid : SessionSeen)
    → TakesSteps {T = T} {E = E} false no_epochs true tries now old (Ok x) mid → FinishesRound tries now old mid
finishes_round x tries now old mid takes = record { made = takes.tries; grown = takes.grown refl; ends = takes.ends }

module _ (table : TableId) (w : World) (i : ℕ) (seat : SeatSeen) (before after : List ℕ) where
  pub opened_line : (mesh : MeshLists) (seen : SessionSeen) → w.mesh ≡ mesh → IsIdle table seat
      → length mesh.index.fields ≤ table.words → seen ≡ session_of mesh i (opened (length mesh.index.fields))
      → IsSession seen → Adds before after (session_line (codes "open") i [])
      → ServesLine table w i (orders.Open i) seat seat None (Some seen) before after
  opened_line mesh seen over idle many is facts adds =
      let n = length mesh.index.fields in
      let state : seen.state ≡ opened n = ap (λ (s : SessionSeen). s.state) is in
      record {
        stands = (
          subst (λ (m : MeshLists). IsSeated table m i seat seen) (sym over)
              (opened_seated table mesh i seat seen idle many is facts),
          subst IsResting (sym state) (rests_opened n),
        );
        one = serves_open w i seat.own.tries before after seen.state
            (state ∙ ap (λ (m : MeshLists). opened (length m.index.fields)) (sym over)) adds;
      }

  pub viewed_line : (old new : SessionSeen) (view : ViewSeen) → old.mesh ≡ w.mesh → old.number ≡ i
      → HasSeat table seat old → IsSession old → new ≡ with_state old (with_view view old.state)
      → HasSameUses old.state new.state → IsSession new → Adds before after (session_line (codes "view") i [])
      → ServesLine table w i (orders.View i view) seat seat (Some old) (Some new) before after
  viewed_line old new view over numbered pass was is same facts adds =
      let state : new.state ≡ with_view view old.state = ap (λ (s : SessionSeen). s.state) is in
      record {
        stands = (
          changed_seated table w.mesh i seat old new (with_view view old.state)
              (record { pass = pass; facts = was; over = over; numbered = numbered }) is same facts,
          subst IsResting (sym state) (rests_viewed old.state view),
        );
        one = serves_view w i seat.own.tries before after old.state new.state view state adds;
      }

  module _ (now : SeatSeen) (old new : SessionSeen) where
    pub freed_line : (unlocks : ℕ) → old.mesh ≡ w.mesh → old.number ≡ i → HasSeat table now new → IsSession new
        → TakesFreeSteps old unlocks new → now.own.tries ≡ seat.own.tries
        → Adds before after (session_line (codes "free") i (decimal unlocks ∷ []))
        → ServesLine table w i (orders.Free i) seat now (Some old) (Some new) before after
    freed_line unlocks over numbered pass facts steps tries adds =
        let Serves : List (ℕ × ℕ) → Type 0 = λ ts.
        ServesOne w (Some old.state) (orders.Free i) (Some new.state) seat.own.tries ts before after in
        record {
          stands = (
            record { pass = pass; facts = facts; over = steps.mesh ∙ over; numbered = steps.number ∙ numbered },
            rests_freed new.state steps.no_round,
          );
          one = subst Serves (sym tries)
              (serves_free w i seat.own.tries before after old.state new.state unlocks steps.frees adds);
        }

    pub closed_line : (unlocks : ℕ) → IsIdle table now → TakesFreeSteps old unlocks new
        → now.own.tries ≡ seat.own.tries → Adds before after (session_line (codes "close") i (decimal unlocks ∷ []))
        → ServesLine table w i (orders.Close i) seat now (Some old) None before after
    closed_line unlocks idle steps tries adds =
        let Serves : List (ℕ × ℕ) → Type 0 = λ ts.
        ServesOne w (Some old.state) (orders.Close i) None seat.own.tries ts before after in
        record {
          stands = idle;
          one = subst Serves (sym tries)
              (serves_close w i seat.own.tries before after old.state new.state unlocks steps.frees adds);
        }

    pub framed_line : (mid : SessionSeen) (view : ViewSeen) → old.mesh ≡ w.mesh → old.number ≡ i → IsResting old.state
        → old.state.view ≡ Some view → FinishesRound seat.own.tries now.own.tries old mid
        → ShowsNext w i mid.state before after → new ≡ with_state mid (printed_once mid.state) → HasSeat table now new
        → IsSession new → ServesLine table w i (orders.Frame i) seat now (Some old) (Some new) before after
    framed_line mid view over numbered rests viewed finishes shows is pass facts =
        let state : new.state ≡ printed_once mid.state = ap (λ (s : SessionSeen). s.state) is in
        record {
          stands = (
            record {
              pass = pass;
              facts = facts;
              over = ap (λ (s : SessionSeen). s.mesh) is ∙ finishes.ends.mesh ∙ over;
              numbered = ap (λ (s : SessionSeen). s.number) is ∙ finishes.ends.number ∙ numbered;
            },
            subst IsResting (sym state) (rests_printed mid.state),
          );
          one = serves_frame w i seat.own.tries now.own.tries before after old mid new.state view over rests viewed
              finishes shows state;
        }
