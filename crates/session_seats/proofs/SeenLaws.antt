-- Seats as they are seen, where another session stands at one of them.
use Rattle.std.proofs.Common.{◌≡◌, ℕ, zero, suc, ◌-◌, List, [], length, replicate, Option, Some, None, is_some, refl, sym, ap, subst, ◌∙◌, arith, inl, inr}
use Rattle.std.specs.Prelude.{slice_index_or, slice_set}
use Rattle.std.specs.Option.{option_map}
use Rattle.std.proofs.lemmas.Bool.{cases_lt}
use Rattle.std.proofs.lemmas.List.{get_or_past, get_or-replicate, length-replicate}
use Rattle.std.proofs.lemmas.Option.{same_Some}
use Rattle.mesh_model.specs.Meshes.{MeshLists}
use Rattle.round_model.specs.Refiners.{Refining}
use Rattle.round_model.specs.Views.{ViewSeen}
use Rattle.session_model.specs.Sessions.{SessionState, locks, uses, round_ended, with_view, printed_once, counted_from}
use Rattle.session_model.specs.SessionStates.{IsSessionState, like_uses}
use Rattle.session_laws.specs.StateLaws.{counted_is, counted_uses, counted_locks, ended_like, viewed_is, viewed_locks, printed_is, printed_locks}
use Rattle.session_locks.specs.Sessions.{SessionSeen, with_state}
use Rattle.token_words.specs.Changes.{SetAt}
use Rattle.token_words.specs.Sessions.{IsSession}
use Rattle.token_words.specs.declared.entries.Entry.{Entry}
use Rattle.token_words.specs.declared.session_sets.TheConstants.{SESSIONS}
use Rattle.session_seats.specs.declared.seat.Seat.{Seat}
use Rattle.session_seats.specs.Seats.{SeatsSeen, at_seat, with_seat, AreSeated, seat_told}
use Rattle.session_model.specs.Told.{SessionTold, session_told, told_view, one_frame_more, told_from}
use Rattle.session_seats.specs.SeatChanges.{ChangesSeat}
use Rattle.session_seats.specs.SeatLaws.{seated_now, told_set}
use Rattle.session_seats.specs.OrderLaws.{same_uses, printed_uses}
use Rattle.session_laws.specs.ToldLaws.{told_viewed, told_printed, told_counted}
use Rattle.session_seats.specs.SeatParts.{seat_state, IsSeat, AreSeats}
use Rattle.session_seats.proofs.PartLaws.{at_sessions, sessions_set, sessions_many, seat_read, seat_number, are_seats_set}
use Rattle.session_seats.proofs.CallLaws.{seats_seen}
use Rattle.session_seats.proofs.Calls.{there, found_seat}

-- ---- no session

abbrev empty_seat : Option Seat
empty_seat = None

none_at : (n i : ℕ) → at_seat (replicate n empty_seat) i ≡ empty_seat
none_at n zero = refl
none_at n (suc i) =
    elim (cases_lt i n) [
      | inl less ↦ get_or-replicate n i empty_seat empty_seat less
      | inr more ↦ get_or_past (replicate n empty_seat) i empty_seat (let many = length-replicate n empty_seat in omega (arith, many))
    ]

pub none_are : (mesh : MeshLists) (seats : List (Option Seat)) → seats ≡ replicate SESSIONS None → AreSeats mesh seats
none_are mesh seats none = subst (AreSeats mesh) (sym none) (record {
  many = length-replicate SESSIONS empty_seat;
  each = λ i seat at. absurd (let empty = none_at SESSIONS i in cc);
})

-- ---- a seat as it is seen

pub round_missing : (s t : SessionState) (r : Refining) → s ≡ t → t.round ≡ Some r → s.round ≡ None → ⊥
round_missing s t r same there none = let here = ap (λ (x : SessionState). x.round) same ∙ there in cc

abbrev with_sessions : MeshLists → List (Option SessionState) → SeatsSeen
with_sessions m xs = record { mesh = m; sessions = xs }

some_map : (o : Option Seat) → is_some (option_map seat_state o) ≡ is_some o
some_map None = refl
some_map (Some seat) = refl

module _ (mesh : MeshLists) (seats : List (Option Seat)) (seen : SeatsSeen) (same : seats_seen mesh seats ≡ seen) (are : AreSeats mesh seats) where
  pub seen_many : length seen.sessions ≡ SESSIONS
  seen_many = ap (λ (x : SeatsSeen). length x.sessions) (sym same) ∙ sessions_many seats ∙ are.many

  pub seen_number : (i : ℕ) (s : SessionState) → at_seat seen.sessions i ≡ Some s → IsSession i
  seen_number i s at = seat_number seen.sessions i s seen_many at

  pub open_seen : (i : ℕ) (o : Option Seat) → IsSession i → o ≡ slice_index_or seats (i - 1) o → is_some o ≡ is_some (at_seat seen.sessions i)
  open_seen i o number read =
      sym (some_map o) ∙ ap (λ (x : Option Seat). is_some (option_map seat_state x)) (sym (seat_read seats i o are.many number read))
      ∙ ap (λ (x : Option SessionState). is_some x) (sym (at_sessions seats i)) ∙ ap (λ (x : SeatsSeen). is_some (at_seat x.sessions i)) same

  -- another thing stands at a seat
  pub set_seen : (i : ℕ) (seat : Option Seat) → seats_seen mesh (slice_set seats (i - 1) seat) ≡ with_seat seen i (option_map seat_state seat)
  set_seen i seat =
      ap (λ (xs : List (Option SessionState)). with_sessions mesh xs) (sessions_set seats (i - 1) seat)
      ∙ ap (λ (x : SeatsSeen). with_seat x i (option_map seat_state seat)) same

  module _ (i : ℕ) (s : SessionState) (at : at_seat seen.sessions i ≡ Some s) (o : Option Seat) (read : o ≡ slice_index_or seats (i - 1) o) (seat : Seat) (is : o ≡ Some seat) where
    -- the session that is seen is the seat's
    pub seat_seen : seat_state seat ≡ s
    seat_seen = same_Some (seat_state seat) s (sym (ap (option_map seat_state) (found_seat mesh seats seen same are i s at o read seat is)) ∙ sym (at_sessions seats i) ∙ there mesh seats seen same are i s at o read)

    pub seen_at : at_seat seen.sessions i ≡ Some (seat_state seat)
    seen_at = at ∙ ap Some (sym seat_seen)

    abbrev seat_with : SessionSeen → Seat
    seat_with session = record { session = session; pass = seat.pass }

    module _ (g : SessionState → SessionState) (session : SessionSeen) (goes : session ≡ with_state seat.session (g (seat_state seat))) where
      -- the session changed, and not its pass
      pub seats_changed : AreSeats mesh (slice_set seats (i - 1) (Some (seat_with session)))
      seats_changed =
          let was = are.each i seat (found_seat mesh seats seen same are i s at o read seat is) in
          are_seats_set mesh seats i (Some (seat_with session)) are (seen_number i s at) (λ x here. subst (IsSeat mesh i) (same_Some (seat_with session) x here) (record {
            over = ap (λ (y : SessionSeen). y.mesh) goes ∙ was.over;
            session = ap (λ (y : SessionSeen). y.number) goes ∙ was.session;
            pass = was.pass;
          }))

      pub seen_changed : (t : SessionState) → at_seat seen.sessions i ≡ Some t → seats_seen mesh (slice_set seats (i - 1) (Some (seat_with session))) ≡ with_seat seen i (Some (g t))
      seen_changed t there_is =
          set_seen i (Some (seat_with session))
          ∙ ap (λ (x : SessionState). with_seat seen i (Some x)) (ap (λ (y : SessionSeen). y.state) goes ∙ ap g (same_Some (seat_state seat) t (sym seen_at ∙ there_is)))

-- ---- the session changed, and not what it uses

abbrev no_words : List Entry
no_words = []

module _ (seen : SeatsSeen) (many : length seen.sessions ≡ SESSIONS) (i : ℕ) (number : IsSession i) (s : SessionState) (at : at_seat seen.sessions i ≡ Some s) where
  pub seated_as : (words : List Entry) → AreSeated seen.mesh words seen.sessions → (t : SessionState) → IsSessionState seen.mesh t → ((p : ℕ) → uses t p ≡ uses s p) → ((p : ℕ) → locks t p ≡ locks s p) → (new : SeatsSeen) → new ≡ with_seat seen i (Some t) → AreSeated new.mesh words new.sessions
  seated_as words are t is same_use same_lock new goes =
      let P : SeatsSeen → Type 0 = λ x. AreSeated x.mesh words x.sessions in
      let after = slice_set seen.sessions (i - 1) (Some t) in
      let changes : ChangesSeat i (Some t) words seen.sessions words after = same_uses words seen.sessions are i s t at same_use same_lock after refl in
      subst P (sym goes) (seated_now words seen.sessions many i number seen.mesh (Some t) words after changes (λ x here. subst (IsSessionState seen.mesh) (same_Some t x here) is) are)

  pub seated_printed : (words : List Entry) → AreSeated seen.mesh words seen.sessions → (new : SeatsSeen) → new ≡ with_seat seen i (Some (printed_once s)) → AreSeated new.mesh words new.sessions
  seated_printed words are new goes = seated_as words are (printed_once s) (printed_is seen.mesh s (are.are i s at)) (printed_uses s) (printed_locks s) new goes

  pub seated_counted : (frames : ℕ) (words : List Entry) → AreSeated seen.mesh words seen.sessions → (new : SeatsSeen) → new ≡ with_seat seen i (Some (counted_from frames s)) → AreSeated new.mesh words new.sessions
  seated_counted frames words are new goes = seated_as words are (counted_from frames s) (counted_is seen.mesh s frames (are.are i s at)) (counted_uses s frames) (counted_locks s frames) new goes

  pub viewed_uses : (view : ViewSeen) → IsSessionState seen.mesh s → (p : ℕ) → uses (with_view view s) p ≡ uses s p
  unfolding with_view
  viewed_uses view is p = like_uses s (round_ended s) (ended_like seen.mesh s is) p

  pub seated_viewed : (view : ViewSeen) (words : List Entry) → AreSeated seen.mesh words seen.sessions → (new : SeatsSeen) → new ≡ with_seat seen i (Some (with_view view s)) → AreSeated new.mesh words new.sessions
  seated_viewed view words are new goes = let is = are.are i s at in seated_as words are (with_view view s) (viewed_is seen.mesh s view is) (viewed_uses view is) (viewed_locks seen.mesh s view is) new goes

  pub told_as : (t : SessionState) (h : SessionTold → SessionTold) → session_told t ≡ h (session_told s) → (told : SessionTold) → seat_told seen.sessions i ≡ Some told → (new : SeatsSeen) → new ≡ with_seat seen i (Some t) → SetAt (seat_told seen.sessions) i (Some (h told)) (seat_told new.sessions)
  told_as t h is told tells new goes =
      let P : Option SessionTold → Type 0 = λ o. SetAt (seat_told seen.sessions) i o (seat_told new.sessions) in
      let first = same_Some (session_told s) told (sym (ap (option_map session_told) at) ∙ tells) in
      subst P (ap Some (is ∙ ap h first)) (told_set no_words seen.sessions many i number (Some t) new.sessions (ap (λ (x : SeatsSeen). x.sessions) goes))

  pub told_as_printed : (told : SessionTold) → seat_told seen.sessions i ≡ Some told → (new : SeatsSeen) → new ≡ with_seat seen i (Some (printed_once s)) → SetAt (seat_told seen.sessions) i (Some (one_frame_more told)) (seat_told new.sessions)
  told_as_printed told tells new goes = told_as (printed_once s) one_frame_more (told_printed s) told tells new goes

  pub told_as_viewed : (view : ViewSeen) (told : SessionTold) → seat_told seen.sessions i ≡ Some told → (new : SeatsSeen) → new ≡ with_seat seen i (Some (with_view view s)) → SetAt (seat_told seen.sessions) i (Some (told_view told view)) (seat_told new.sessions)
  told_as_viewed view told tells new goes = told_as (with_view view s) (λ (x : SessionTold). told_view x view) (told_viewed s view) told tells new goes

  pub told_as_counted : (frames : ℕ) (told : SessionTold) → seat_told seen.sessions i ≡ Some told → (new : SeatsSeen) → new ≡ with_seat seen i (Some (counted_from frames s)) → SetAt (seat_told seen.sessions) i (Some (told_from told frames)) (seat_told new.sessions)
  told_as_counted frames told tells new goes = told_as (counted_from frames s) (λ (x : SessionTold). told_from x frames) (told_counted s frames) told tells new goes
