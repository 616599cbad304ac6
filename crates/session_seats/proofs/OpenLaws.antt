-- A session opens at its seat.
use Rattle.std.proofs.Common.{◌≡◌, ℕ, ◌-◌, Bool, false, ◌||◌, List, length, Option, Some, None, sym, ap, subst, ◌∙◌}
use Rattle.std.specs.Prelude.{slice_set}
use Rattle.std.proofs.lemmas.Option.{same_Some}
use Rattle.mesh_model.specs.Meshes.{MeshLists}
use Rattle.script_model.specs.declared.orders.Order.TheVariants as orders
use Rattle.session_model.specs.Sessions.{SessionState, locks, opened}
use Rattle.session_model.specs.SessionStates.{IsSessionState}
use Rattle.session_laws.specs.StateLaws.{none_left_over, opened_is, opened_uses}
use Rattle.session_locks.specs.Sessions.{SessionSeen}
use Rattle.session_locks.specs.Sessions.{session_of as session_over}
use Rattle.token_words.specs.Changes.{SetAt}
use Rattle.token_words.specs.Sessions.{IsSession}
use Rattle.token_words.specs.PlainTokens.{words_seen, is_locker, session_of}
use Rattle.token_words.specs.declared.plain_words.PlainTokens.{PlainTokens}
use Rattle.run_model.specs.Lines.{DidOpen}
use Rattle.run_model.specs.States.{seat_uses}
use Rattle.session_seats.specs.declared.seat.Seat.{Seat}
use Rattle.session_seats.specs.Seats.{SeatsSeen, at_seat, with_seat, AreSeated, seat_told}
use Rattle.session_model.specs.Told.{SessionTold, just_opened}
use Rattle.session_seats.specs.SeatChanges.{ChangesSeat}
use Rattle.session_seats.specs.Orders.{DoesOrder}
use Rattle.session_seats.specs.SeatLaws.{seated_now, told_set}
use Rattle.session_seats.specs.OrderLaws.{opens, keeps_words}
use Rattle.session_laws.specs.ToldLaws.{told_opened}
use Rattle.session_seats.specs.SeatParts.{IsSeat, AreSeats}
use Rattle.session_seats.proofs.PartLaws.{are_seats_set}
use Rattle.session_seats.proofs.CallLaws.{seats_seen}
use Rattle.session_seats.proofs.SeenLaws.{seen_many, set_seen}

opened_locks : (patches p : ℕ) → locks (opened patches) p ≡ false
unfolding opened
opened_locks patches p = ap (λ (t : Bool). t || false) (none_left_over patches p)

abbrev pub patches_of : MeshLists → ℕ
patches_of mesh = length mesh.index.fields

module _ (mesh : MeshLists) (seats : List (Option Seat)) (seen : SeatsSeen) (same : seats_seen mesh seats ≡ seen) (are : AreSeats mesh seats) (i : ℕ) (number : IsSession i) (seat : Seat) (is : seat.session ≡ session_over mesh i (opened (patches_of mesh))) (pass : session_of seat.pass ≡ i) where
  pub seats_opened : AreSeats mesh (slice_set seats (i - 1) (Some seat))
  seats_opened = are_seats_set mesh seats i (Some seat) are number (λ x here. subst (IsSeat mesh i) (same_Some seat x here) (record {
    over = ap (λ (s : SessionSeen). s.mesh) is;
    session = ap (λ (s : SessionSeen). s.number) is;
    pass = pass;
  }))

  abbrev new : SeatsSeen
  new = seats_seen mesh (slice_set seats (i - 1) (Some seat))

  goes : new ≡ with_seat seen i (Some (opened (patches_of seen.mesh)))
  goes =
      set_seen mesh seats seen same are i (Some seat)
      ∙ ap (λ (s : SessionState). with_seat seen i (Some s)) (ap (λ (s : SessionSeen). s.state) is ∙ ap (λ (x : SeatsSeen). opened (patches_of x.mesh)) same)

  module _ (words : PlainTokens) (closed : at_seat seen.sessions i ≡ None) (unlocked : (p : ℕ) → is_locker words i p ≡ false) (seated : AreSeated seen.mesh (words_seen words) seen.sessions) where
    changes : ChangesSeat i (Some (opened (patches_of seen.mesh))) (words_seen words) seen.sessions (words_seen words) new.sessions
    changes = record {
      seats = ap (λ (x : SeatsSeen). x.sessions) goes;
      keeps = keeps_words i (words_seen words);
      uses = λ p. seated.uses_are i p ∙ ap (λ (o : Option SessionState). seat_uses o p) closed ∙ sym (opened_uses (patches_of seen.mesh) p);
      locked = λ s here p. unlocked p ∙ sym (opened_locks (patches_of seen.mesh) p) ∙ ap (λ (x : SessionState). locks x p) (same_Some (opened (patches_of seen.mesh)) s here);
    }

    pub open_does : DoesOrder (orders.Open i) (DidOpen i) (words_seen words) seen (words_seen words) new
    open_does = opens seen.mesh (words_seen words) seen.sessions seated (seen_many mesh seats seen same are) i number (words_seen words) new closed changes

    pub open_seated : AreSeated new.mesh (words_seen words) new.sessions
    open_seated =
        let after = slice_set seen.sessions (i - 1) (Some (opened (patches_of seen.mesh))) in
        let P : SeatsSeen → Type 0 = λ x. AreSeated x.mesh (words_seen words) x.sessions in
        let Q : List (Option SessionState) → Type 0 = λ x. ChangesSeat i (Some (opened (patches_of seen.mesh))) (words_seen words) seen.sessions (words_seen words) x in
        subst P (sym goes)
        (seated_now (words_seen words) seen.sessions (seen_many mesh seats seen same are) i number seen.mesh (Some (opened (patches_of seen.mesh))) (words_seen words) after (subst Q changes.seats changes)
        (λ s here. subst (IsSessionState seen.mesh) (same_Some (opened (patches_of seen.mesh)) s here) (opened_is seen.mesh)) seated)

    pub open_told : SetAt (seat_told seen.sessions) i (Some just_opened) (seat_told new.sessions)
    open_told =
        subst (λ (o : Option SessionTold). SetAt (seat_told seen.sessions) i o (seat_told new.sessions)) (ap Some (told_opened (patches_of seen.mesh)))
        (told_set (words_seen words) seen.sessions (seen_many mesh seats seen same are) i number (Some (opened (patches_of seen.mesh))) new.sessions changes.seats)
