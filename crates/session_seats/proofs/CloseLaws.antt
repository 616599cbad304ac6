-- A session that uses nothing leaves its seat, and its view is taken off.
use Rattle.std.proofs.Common.{◌≡◌, ℕ, ◌-◌, ◌<◌, ◌^◌, List, Option, None, sym, ap, subst, ◌∙◌}
use Rattle.std.specs.Prelude.{slice_set}
use Rattle.mesh_model.specs.Meshes.{MeshLists}
use Rattle.script_model.specs.declared.orders.Order.TheVariants as orders
use Rattle.session_model.specs.Sessions.{SessionState}
use Rattle.token_words.specs.Changes.{SetAt, Stays}
use Rattle.token_words.specs.declared.entries.Entry.{Entry}
use Rattle.wish_board.specs.Boards.{BoardSeen, without_view}
use Rattle.run_model.specs.Lines.{DidClose}
use Rattle.session_seats.specs.declared.seat.Seat.{Seat}
use Rattle.session_seats.specs.Seats.{SeatsSeen, with_seat, AreSeated, seat_told}
use Rattle.session_seats.specs.SeatChanges.{ChangesSeat}
use Rattle.session_seats.specs.Boards.{IsBoardFor}
use Rattle.session_seats.specs.Orders.{DoesPosting, FreesUses}
use Rattle.session_seats.specs.SeatLaws.{seated_now, told_set}
use Rattle.session_seats.specs.BoardLaws.{leaves, closes, taken_off_for}
use Rattle.session_seats.specs.SeatParts.{AreSeats}
use Rattle.session_seats.proofs.PartLaws.{are_seats_set}
use Rattle.session_seats.proofs.CallLaws.{seats_seen}
use Rattle.session_seats.proofs.SeenLaws.{seen_many, set_seen}

module _ (mesh : MeshLists) (seats : List (Option Seat)) (mid : SeatsSeen) (same : seats_seen mesh seats ≡ mid) (are : AreSeats mesh seats) (i : ℕ) (words : List Entry) (old : SeatsSeen) (unlocks : ℕ) (words_now : List Entry) (freed : FreesUses i words old unlocks words_now mid) where
  abbrev new : SeatsSeen
  new = seats_seen mesh (slice_set seats (i - 1) None)

  pub seats_left : AreSeats mesh (slice_set seats (i - 1) None)
  seats_left = are_seats_set mesh seats i None are freed.number (λ x here. absurd (cc))

  goes : new ≡ with_seat mid i None
  goes = set_seen mesh seats mid same are i None

  left : new.sessions ≡ slice_set mid.sessions (i - 1) None
  left = ap (λ (x : SeatsSeen). x.sessions) goes

  pub close_does : (board : BoardSeen) → IsBoardFor old.mesh board → board.version < 2 ^ 63 → (board_now : BoardSeen) → board_now ≡ without_view board i → DoesPosting (orders.Close i) (DidClose i unlocks) words old board.views board.version words_now new board_now.views board_now.version
  close_does board is_for few board_now is = closes i words old unlocks words_now mid freed board is_for few new left board_now is

  pub close_seated : AreSeated mid.mesh words_now mid.sessions → AreSeated new.mesh words_now new.sessions
  close_seated seated =
      let after = slice_set mid.sessions (i - 1) None in
      let P : SeatsSeen → Type 0 = λ x. AreSeated x.mesh words_now x.sessions in
      let Q : List (Option SessionState) → Type 0 = λ x. ChangesSeat i None words_now mid.sessions words_now x in
      subst P (sym goes)
      (seated_now words_now mid.sessions (seen_many mesh seats mid same are) i freed.number mid.mesh None words_now after (subst Q left (leaves i words old unlocks words_now mid freed new left)) (λ s here. absurd (cc)) seated)

  pub close_told : Stays (seat_told old.sessions) (seat_told mid.sessions) → SetAt (seat_told old.sessions) i None (seat_told new.sessions)
  close_told stays =
      let set = told_set words_now mid.sessions (seen_many mesh seats mid same are) i freed.number None new.sessions left in
      record { here = set.here; others = λ j ne. set.others j ne ∙ stays j }

  pub close_mesh : mid.mesh ≡ old.mesh → new.mesh ≡ old.mesh
  close_mesh is = ap (λ (x : SeatsSeen). x.mesh) same ∙ is

  pub close_board : (board board_now : BoardSeen) → IsBoardFor old.mesh board → mid.mesh ≡ old.mesh → board_now ≡ without_view board i → IsBoardFor new.mesh board_now
  close_board board board_now is_for stays is =
      subst (λ (m : MeshLists). IsBoardFor m board_now) (sym (close_mesh stays))
      (subst (IsBoardFor old.mesh) (sym is) (taken_off_for old.mesh board i is_for))
