-- The lines of a session, one after another, with its seat.
use Rattle.std.proofs.Common.{◌≡◌, ℕ, suc, ◌+◌, ◌^◌, ◌<◌, ◌≤◌, true, false, List, [], ◌∷◌, ◌++◌, length, take, drop, get_or, Option, Some, None, Result, Ok, Err, OnOk, OnErr, refl, sym, ap, subst, ◌∙◌, add-one, drop-cons, arith}
use Rattle.std.proofs.lemmas.List.{take_more, map-append}
use Rattle.atomic_table.specs.Seated.{TableId}
use Rattle.mesh_model.specs.Meshes.{MeshLists}
use Rattle.script_model.specs.declared.orders.Line.{Line}
use Rattle.script_model.specs.declared.orders.Order.{Order}
use Rattle.script_model.specs.declared.stages.SessionStage.{SessionStage}
use Rattle.session_model.specs.Sessions.{SessionState, opened, with_view, printed_once}
use Rattle.session_model.specs.Finishes.{pairs_of}
use Rattle.session_model.specs.Told.{SessionTold}
use Rattle.session_laws.specs.ToldLaws.{told_opened, told_viewed, told_printed, told_finishes, told_frees}
use Rattle.session_locks.specs.Sessions.{SessionSeen}
use Rattle.text_model.specs.Lines.{begins_line}
use Rattle.token_table.specs.Seats.{SessionSeen as SeatSeen, IsIdle}
use Rattle.run_model.specs.Worlds.{World, patch_count}
use Rattle.run_model.specs.RunTexts.{orders_of}
use Rattle.run_model.specs.Lines.{Did}
use Rattle.run_model.specs.Stages.{viewed_stage, stage_of}
use Rattle.serve_model.specs.ServedLines.{no_epochs, Serves, ServesOpen, ServesView, ServesFrame, ServesFree, ServesClose}
use Rattle.shared_sessions.specs.SharedSeats.{IsSeatedOr, HasSeatOr, state_of}
use Rattle.shared_sessions.specs.Stages.{AreOwnLines, MayServeAll, stage_behind}
use Rattle.shared_sessions.specs.OwnLines.{own_lines}
use Rattle.shared_sessions.specs.ServedOrders.{ServesOne, ServesSome, none_served, one_served}

-- an order was served, and the session stands as it leaves it, with its seat
pub record ServesLine (table : TableId) (w : World) (number : ℕ) (order : Order) (seat now : SeatSeen)
    (a b : Option SessionSeen) (before after : List ℕ) : Type 0 where
  pub stands : IsSeatedOr table w.mesh number now b
  pub one : ServesOne w (state_of a) order (state_of b) seat.own.tries now.own.tries before after

-- the orders were served from where no session was open, one after another
pub record ServesLines (w : World) (lines : List Line) (tries now : List (ℕ × ℕ)) (before after : List ℕ) : Type 0 where
  pub left : Option SessionState
  pub some : ServesSome w None (orders_of lines) left tries now before after

-- ---- what an order leaves

-- how many frames the session printed
abbrev pub frames_in : Option SessionState → ℕ
frames_in None = 0
frames_in (Some s) = s.frames

told_stage : SessionTold → SessionStage
told_stage told = viewed_stage told.view

serves_stage : (w : World) (a b : Option SessionState) (order : Order) (did : Did) → Serves w a order did b
    → stage_of b ≡ stage_behind (stage_of a) order
unfolding told_stage
serves_stage w _ _ _ _ (ServesOpen i) = ap told_stage (told_opened (patch_count w))
serves_stage w _ _ _ _ (ServesView i s view) = ap told_stage (told_viewed s view)
serves_stage w _ _ _ _ (ServesFrame i s t view frame done viewed finishes is) =
    ap told_stage (told_printed t)
    ∙ ap told_stage (told_finishes w.mesh false no_epochs s (pairs_of frame.tries) t finishes)
serves_stage w _ _ _ _ (ServesFree i unlocks s t frees) = ap told_stage (told_frees s t unlocks frees)
serves_stage w _ _ _ _ (ServesClose i unlocks s t frees) = refl

told_frames : SessionTold → ℕ
told_frames told = told.frames

serves_frames : (w : World) (a b : Option SessionState) (order : Order) (did : Did) → Serves w a order did b
    → frames_in b ≤ frames_in a + 1
unfolding told_frames
serves_frames w _ _ _ _ (ServesOpen i) =
    let none : (opened (patch_count w)).frames ≡ 0 = ap told_frames (told_opened (patch_count w)) in omega (arith, none)
serves_frames w _ _ _ _ (ServesView i s view) =
    let same : (with_view view s).frames ≡ s.frames = ap told_frames (told_viewed s view) in omega (arith, same)
serves_frames w _ _ _ _ (ServesFrame i s t view frame done viewed finishes is) =
    let more : (printed_once t).frames ≡ t.frames + 1 = ap told_frames (told_printed t) in
    let same : t.frames ≡ s.frames =
    ap told_frames (told_finishes w.mesh false no_epochs s (pairs_of frame.tries) t finishes) in
    omega (arith, more, same)
serves_frames w _ _ _ _ (ServesFree i unlocks s t frees) =
    let same : t.frames ≡ s.frames = ap told_frames (told_frees s t unlocks frees) in omega (arith, same)
serves_frames w _ _ _ _ (ServesClose i unlocks s t frees) = omega arith

-- ---- along the lines

-- the first k lines were served, and the others may come: since the lines' numbers ascend, fewer frames were printed
-- than there are numbers
pub record IsUnderWay (table : TableId) (w : World) (i : ℕ) (lines : List Line) (k : ℕ) (seat now : SeatSeen)
    (session : Option SessionSeen) (before after : List ℕ) : Type 0 where
  pub above : ℕ
  pub small : above < 2 ^ 32
  pub few : frames_in (state_of session) ≤ above
  pub rest : MayServeAll i (stage_of (state_of session)) above (drop k lines)
  pub stands : IsSeatedOr table w.mesh i now session
  pub number : now.own.number ≡ seat.own.number
  pub served : ServesSome w None (orders_of (take k lines)) (state_of session) seat.own.tries now.own.tries before after
  pub ended : begins_line after ≡ true

pub sets_out : (table : TableId) (w : World) (i : ℕ) (lines : List Line) (seat : SeatSeen) (before : List ℕ)
    → AreOwnLines i lines → IsIdle table seat → begins_line before ≡ true
    → IsUnderWay table w i lines 0 seat seat None before before
sets_out table w i lines seat before own idle begins = record {
  above = 0;
  small = omega arith;
  few = omega arith;
  rest = own_lines i lines own;
  stands = idle;
  number = refl;
  served = none_served w None seat.own.tries before;
  ended = begins;
}

module _ (table : TableId) (w : World) (i : ℕ) (lines : List Line) (k : ℕ) (line : Line) (seat now : SeatSeen)
    (session : Option SessionSeen) (before mid : List ℕ) (within : k < length lines)
    (here : line ≡ get_or lines k line) (way : IsUnderWay table w i lines k seat now session before mid) where
  ahead : drop k lines ≡ line ∷ drop (k + 1) lines
  ahead = drop-cons lines k line within ∙ ap (λ (l : Line). l ∷ drop (suc k) lines) (sym here)
      ∙ ap (λ (n : ℕ). line ∷ drop n lines) (sym (add-one k))

  rest_here : MayServeAll i (stage_of (state_of session)) way.above (line ∷ drop (k + 1) lines)
  rest_here = subst (MayServeAll i (stage_of (state_of session)) way.above) ahead way.rest

  pub one_line_more : (after_seat : SeatSeen) (new : Option SessionSeen) (after : List ℕ) → line.number < 2 ^ 32
      → ServesLine table w i line.order now after_seat session new mid after → after_seat.own.number ≡ now.own.number
      → begins_line after ≡ true → IsUnderWay table w i lines (k + 1) seat after_seat new before after
  one_line_more after_seat new after small serves numbered ended =
      let one = serves.one in
      let frames = serves_frames w (state_of session) (state_of new) line.order one.did one.serves in
      let few = way.few in
      let ascends = rest_here.0 in
      record {
        above = line.number;
        small = small;
        few = omega (arith, frames, few, ascends);
        rest = subst (λ (at : SessionStage). MayServeAll i at line.number (drop (k + 1) lines))
            (sym (serves_stage w (state_of session) (state_of new) line.order one.did one.serves)) rest_here.2;
        stands = serves.stands;
        number = numbered ∙ way.number;
        served = subst
            (λ (os : List Order). ServesSome w None os (state_of new) seat.own.tries after_seat.own.tries before after)
            (sym orders_more) (one_served w None (state_of session) (state_of new) (orders_of (take k lines)) line.order
            seat.own.tries now.own.tries after_seat.own.tries before mid after way.served one);
        ended = ended;
      }
    where
      orders_more : orders_of (take (k + 1) lines) ≡ orders_of (take k lines) ++ line.order ∷ []
      orders_more = ap orders_of (take_more lines k line within ∙ ap (λ (l : Line). take k lines ++ l ∷ []) (sym here))
          ∙ map-append (λ (l : Line). l.order) (take k lines) (line ∷ [])

-- ---- the seat behind a line

pub stands_has : (table : TableId) (mesh : MeshLists) (i : ℕ) (seat : SeatSeen) (session : Option SessionSeen)
    → IsSeatedOr table mesh i seat session → HasSeatOr table seat session
stands_has table mesh i seat None stands = stands
stands_has table mesh i seat (Some seen) stands = stands.0.pass

pub opening_has : {T E : Type 0} (opened : Result T E) (table : TableId) (mesh : MeshLists) (i : ℕ) (seat : SeatSeen)
    (session : Option SessionSeen) → OnOk opened (IsSeatedOr table mesh i seat session)
    → OnErr opened (session ≡ None) → IsIdle table seat → HasSeatOr table seat session
opening_has (Ok x) table mesh i seat session stands none idle = stands_has table mesh i seat session stands
opening_has (Err e) table mesh i seat session stands none idle = subst (HasSeatOr table seat) (sym none) idle
