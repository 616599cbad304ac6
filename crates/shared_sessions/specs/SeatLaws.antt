-- A session keeps its seat as it opens, sees a view, prints a frame and gives all back, and what that serves of its
-- orders.
use Rattle.std.proofs.Common.{◌≡◌, ℕ, ◌≤◌, Bool, true, false, ◌||◌, List, [], ◌∷◌, ◌++◌, length, codes, Option, Some, None, refl, sym, ap, subst, ◌∙◌}
use Rattle.std.specs.Fmt.{decimal}
use Rattle.std.proofs.lemmas.Bool.{cond_both}
use Rattle.std.proofs.lemmas.List.{append-nil}
use Rattle.atomic_table.specs.Seated.{TableId}
use Rattle.mesh_model.specs.Meshes.{MeshLists}
use Rattle.round_model.specs.Refiners.{Refining}
use Rattle.round_model.specs.Views.{ViewSeen}
use Rattle.script_model.specs.declared.orders.Order.TheVariants as orders
use Rattle.session_model.specs.Sessions.{SessionState, locks, is_in_flight, opened, with_view, round_ended, printed_once}
use Rattle.session_model.specs.Freeing.{FreesAll}
use Rattle.session_laws.specs.StateLaws.{opened_uses}
use Rattle.session_locks.specs.Sessions.{SessionSeen, session_of, with_state, IsSession}
use Rattle.session_locks.specs.Passes.{HasSameUses, pass_of_same}
use Rattle.session_locks.specs.Taken.{TakesFreeSteps}
use Rattle.text_model.specs.Lines.{Adds}
use Rattle.token_table.specs.Known.{has}
use Rattle.token_table.specs.Seats.{SessionSeen as SeatSeen, IsSeatOf, IsIdle}
use Rattle.run_model.specs.Worlds.{World, patch_count}
use Rattle.run_model.specs.Lines.{DidOpen, DidView, DidFree, DidClose}
use Rattle.run_model.specs.LineTexts.{session_line}
use Rattle.serve_model.specs.ServedLines.{Serves, ServesOpen, ServesView, ServesFree, ServesClose}
use Rattle.shared_sessions.specs.SharedSeats.{HasSeat, IsSeated, IsResting}
use Rattle.shared_sessions.specs.ServedOrders.{ServesOne}

-- ---- seats

left_false : (a b : Bool) → (a || b) ≡ false → a ≡ false
left_false true b is = absurd (cc)
left_false false b is = refl

none_locked : (table : TableId) (seat : SeatSeen) → IsIdle table seat → (p : ℕ) → has seat.own.locks p ≡ false
none_locked table seat idle p = by_test (has seat.own.locks p) refl
  where
    by_test : (locked : Bool) → has seat.own.locks p ≡ locked → locked ≡ false
    by_test true is = absurd (let used = idle.of.used p is in let unused = idle.unused p in cc)
    by_test false is = refl

pub opened_seat : (table : TableId) (mesh : MeshLists) (number : ℕ) (seat : SeatSeen) → IsIdle table seat
    → length mesh.index.fields ≤ table.words
    → HasSeat table seat (session_of mesh number (opened (length mesh.index.fields)))
opened_seat table mesh number seat idle many =
    let n = length mesh.index.fields in
    record {
      of_words = idle.of;
      many = many;
      uses_are = λ p. idle.unused p ∙ sym (opened_uses n p);
      locks_are = λ p. none_locked table seat idle p
          ∙ sym (left_false (locks (opened n) p) (is_in_flight (opened n).flight p) (opened_uses n p));
    }

pub opened_seated : (table : TableId) (mesh : MeshLists) (number : ℕ) (seat : SeatSeen) (seen : SessionSeen)
    → IsIdle table seat → length mesh.index.fields ≤ table.words
    → seen ≡ session_of mesh number (opened (length mesh.index.fields)) → IsSession seen
    → IsSeated table mesh number seat seen
opened_seated table mesh number seat seen idle many is facts = record {
  pass = subst (HasSeat table seat) (sym is) (opened_seat table mesh number seat idle many);
  facts = facts;
  over = ap (λ (s : SessionSeen). s.mesh) is;
  numbered = ap (λ (s : SessionSeen). s.number) is;
}

pub changed_seat : (table : TableId) (seat : SeatSeen) (old new : SessionSeen) (t : SessionState)
    → HasSeat table seat old → new ≡ with_state old t → HasSameUses old.state new.state → HasSeat table seat new
changed_seat table seat old new t pass is same =
    let whole : with_state old new.state ≡ new = ap (λ (s : SessionSeen). with_state old s.state) is ∙ sym is in
    subst (HasSeat table seat) whole
    (pass_of_same (IsSeatOf table seat) table.words (has seat.own.uses)
    (has seat.own.locks) old new.state same pass)

pub changed_seated : (table : TableId) (mesh : MeshLists) (number : ℕ) (seat : SeatSeen) (old new : SessionSeen)
    (t : SessionState) → IsSeated table mesh number seat old → new ≡ with_state old t → HasSameUses old.state new.state
    → IsSession new → IsSeated table mesh number seat new
changed_seated table mesh number seat old new t seated is same facts = record {
  pass = changed_seat table seat old new t seated.pass is same;
  facts = facts;
  over = ap (λ (s : SessionSeen). s.mesh) is ∙ seated.over;
  numbered = ap (λ (s : SessionSeen). s.number) is ∙ seated.numbered;
}

pub freed_seated : (table : TableId) (mesh : MeshLists) (number : ℕ) (seat after : SeatSeen) (old new : SessionSeen)
    (unlocks : ℕ) → IsSeated table mesh number seat old → HasSeat table after new → IsSession new
    → TakesFreeSteps old unlocks new → IsSeated table mesh number after new
freed_seated table mesh number seat after old new unlocks seated pass facts steps = record {
  pass = pass;
  facts = facts;
  over = steps.mesh ∙ seated.over;
  numbered = steps.number ∙ seated.numbered;
}

-- ---- no round goes on

pub rests_opened : (n : ℕ) → IsResting (opened n)
unfolding opened
rests_opened n = refl

pub rests_viewed : (s : SessionState) (view : ViewSeen) → IsResting (with_view view s)
unfolding with_view round_ended
rests_viewed s view = refl

pub rests_printed : (s : SessionState) → IsResting (printed_once s)
unfolding printed_once
rests_printed s = refl

pub rests_freed : (s : SessionState) → s.round ≡ None → IsResting s
rests_freed s none = cond_both s.printed None s.round (λ (o : Option Refining). o ≡ None) (λ printed. refl)
    (λ going. none)

-- ---- orders

module _ (w : World) (i : ℕ) (tries : List (ℕ × ℕ)) (before after : List ℕ) where
  same_tries : tries ≡ tries ++ []
  same_tries = sym (append-nil tries)

  pub serves_open : (s : SessionState) → s ≡ opened (patch_count w)
      → Adds before after (session_line (codes "open") i [])
      → ServesOne w None (orders.Open i) (Some s) tries tries before after
  serves_open s is adds = record {
    did = DidOpen i;
    serves = subst (λ (t : SessionState). Serves w None (orders.Open i) (DidOpen i) (Some t)) (sym is) (ServesOpen i);
    grown = same_tries;
    text = session_line (codes "open") i [];
    is = refl;
    adds = adds;
  }

  pub serves_view : (s t : SessionState) (view : ViewSeen) → t ≡ with_view view s
      → Adds before after (session_line (codes "view") i [])
      → ServesOne w (Some s) (orders.View i view) (Some t) tries tries before after
  serves_view s t view is adds = record {
    did = DidView i;
    serves = subst (λ (u : SessionState). Serves w (Some s) (orders.View i view) (DidView i) (Some u)) (sym is)
        (ServesView i s view);
    grown = same_tries;
    text = session_line (codes "view") i [];
    is = refl;
    adds = adds;
  }

  pub serves_free : (s t : SessionState) (unlocks : ℕ) → FreesAll s unlocks t
      → Adds before after (session_line (codes "free") i (decimal unlocks ∷ []))
      → ServesOne w (Some s) (orders.Free i) (Some t) tries tries before after
  serves_free s t unlocks frees adds = record {
    did = DidFree i unlocks;
    serves = ServesFree i unlocks s t frees;
    grown = same_tries;
    text = session_line (codes "free") i (decimal unlocks ∷ []);
    is = refl;
    adds = adds;
  }

  pub serves_close : (s t : SessionState) (unlocks : ℕ) → FreesAll s unlocks t
      → Adds before after (session_line (codes "close") i (decimal unlocks ∷ []))
      → ServesOne w (Some s) (orders.Close i) None tries tries before after
  serves_close s t unlocks frees adds = record {
    did = DidClose i unlocks;
    serves = ServesClose i unlocks s t frees;
    grown = same_tries;
    text = session_line (codes "close") i (decimal unlocks ∷ []);
    is = refl;
    adds = adds;
  }
