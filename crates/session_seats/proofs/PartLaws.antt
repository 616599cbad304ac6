-- Seats inside, where one of them changes.
use Rattle.std.proofs.Common.{◌≡◌, ℕ, zero, suc, ◌-◌, ◌<◌, List, length, Option, Some, None, refl, sym, ap, subst, ◌∙◌, arith, inl, inr}
use Rattle.std.specs.Prelude.{slice_index_or, slice_set}
use Rattle.std.specs.Option.{option_map}
use Rattle.std.proofs.lemmas.Bool.{cases_eq, cases_lt}
use Rattle.std.proofs.lemmas.List.{get_or_past, get_or_default, length-set, map-set, length-map}
use Rattle.std.proofs.Math.ListN.{get_or-map}
use Rattle.std.proofs.lemmas.Option.{same_Some}
use Rattle.mesh_model.specs.Meshes.{MeshLists}
use Rattle.session_model.specs.Sessions.{SessionState, locks, uses}
use Rattle.session_model.specs.SessionStates.{IsSessionState}
use Rattle.token_words.specs.Sessions.{IsSession}
use Rattle.token_words.specs.PlainTokens.{patch_count, words_seen, is_user, is_locker}
use Rattle.token_words.specs.declared.plain_words.PlainTokens.{PlainTokens}
use Rattle.token_words.specs.declared.session_sets.TheConstants.{SESSIONS}
use Rattle.run_model.specs.States.{seat_uses}
use Rattle.session_seats.specs.declared.seat.Seat.{Seat}
use Rattle.session_seats.specs.Seats.{at_seat, AreSeated}
use Rattle.session_seats.specs.SeatChanges.{KeepsWords, ChangesSeat}
use Rattle.session_seats.specs.SeatLaws.{seat_is, seat_stays, seated_now}
use Rattle.session_seats.specs.SeatParts.{seat_state, sessions_of, IsSeat, AreSeats, HasPass}
use Rattle.session_seats.specs.SeatSteps.{KeepsSeat}

-- ---- a place in the list

-- where something stands, there is a seat of that number
pub seat_number : {A : Type 0} (seats : List (Option A)) (i : ℕ) (x : A) → length seats ≡ SESSIONS → at_seat seats i ≡ Some x → IsSession i
seat_number seats zero x many at = absurd (cc)
seat_number seats (suc i) x many at =
    elim (cases_lt i (length seats)) [
      | inl less ↦ (omega arith, omega (arith, many))
      | inr more ↦ absurd (let past = get_or_past seats i None more in cc)
    ]

pub seat_within : {A : Type 0} (seats : List A) (i : ℕ) → length seats ≡ SESSIONS → IsSession i → i - 1 < length seats
seat_within seats i many number = omega (arith, many, number)

-- the element that was read stands at the seat
pub seat_read : {A : Type 0} (seats : List (Option A)) (i : ℕ) (o : Option A) → length seats ≡ SESSIONS → IsSession i → o ≡ slice_index_or seats (i - 1) o → at_seat seats i ≡ o
seat_read seats zero o many number read = absurd (omega (arith, number.0))
seat_read seats (suc i) o many number read =
    let place : suc i - 1 ≡ i = omega arith in
    let here : o ≡ slice_index_or seats i o = read ∙ ap (λ (k : ℕ). slice_index_or seats k o) place in
    get_or_default seats i None o (omega (arith, many, number.1)) ∙ sym here

-- ---- the sessions at the seats

pub at_sessions : (seats : List (Option Seat)) (i : ℕ) → at_seat (sessions_of seats) i ≡ option_map seat_state (at_seat seats i)
at_sessions seats zero = refl
at_sessions seats (suc i) = get_or-map (option_map seat_state) seats i None

pub sessions_set : (seats : List (Option Seat)) (i : ℕ) (seat : Option Seat) → sessions_of (slice_set seats i seat) ≡ slice_set (sessions_of seats) i (option_map seat_state seat)
sessions_set seats i seat = map-set (option_map seat_state) seats i seat

pub sessions_many : (seats : List (Option Seat)) → length (sessions_of seats) ≡ length seats
sessions_many seats = length-map seats (option_map seat_state)

-- the session that is seen at a seat is that of a seat
some_seat : (o : Option Seat) (s : SessionState) → option_map seat_state o ≡ Some s → (seat : Seat) × (o ≡ Some seat) × (seat_state seat ≡ s)
some_seat None s is = absurd (cc)
some_seat (Some seat) s is = (seat, refl, same_Some (seat_state seat) s is)

pub seat_of : (seats : List (Option Seat)) (i : ℕ) (s : SessionState) → at_seat (sessions_of seats) i ≡ Some s → (seat : Seat) × (at_seat seats i ≡ Some seat) × (seat_state seat ≡ s)
seat_of seats i s at = some_seat (at_seat seats i) s (sym (at_sessions seats i) ∙ at)

-- another thing stands at a seat
pub are_seats_set : (mesh : MeshLists) (seats : List (Option Seat)) (i : ℕ) (seat : Option Seat) → AreSeats mesh seats → IsSession i → ((x : Seat) → seat ≡ Some x → IsSeat mesh i x) → AreSeats mesh (slice_set seats (i - 1) seat)
are_seats_set mesh seats i seat are number here = record {
  many = length-set seats (i - 1) seat ∙ are.many;
  each = λ j x at. elim (cases_eq j i) [
    | inl same ↦ subst (λ (k : ℕ). IsSeat mesh k x) (sym same) (here x (sym (seat_is seats are.many i seat number) ∙ ap (at_seat (slice_set seats (i - 1) seat)) (sym same) ∙ at))
    | inr ne ↦ are.each j x (sym (seat_stays seats are.many i j seat number ne) ∙ at)
  ];
}

-- ---- one session goes on

words_many : (words : PlainTokens) → length (words_seen words) ≡ patch_count words
words_many words = sym words.entries.ok.0

module _ (mesh : MeshLists) (seats : List (Option Seat)) (words : PlainTokens) (i : ℕ) (old : Seat) (are : AreSeats mesh seats) (seated : AreSeated mesh (words_seen words) (sessions_of seats)) (at : at_seat seats i ≡ Some old) where
  pub old_seat : IsSeat mesh i old
  old_seat = are.each i old at

  pub number : IsSession i
  number = seat_number seats i old are.many at

  pub old_state : at_seat (sessions_of seats) i ≡ Some (seat_state old)
  old_state = at_sessions seats i ∙ ap (option_map seat_state) at

  pub many : length (sessions_of seats) ≡ SESSIONS
  many = sessions_many seats ∙ are.many

  pub has_pass : HasPass words old
  has_pass = let pass = old_seat.pass in record {
    of_words = subst IsSession (sym pass) number;
    many = let there = seated.many in let have = words_many words in let over = ap (λ (m : MeshLists). length m.index.fields) old_seat.over in omega (arith, there, have, over);
    uses_are = λ p. ap (λ (k : ℕ). is_user words k p) pass ∙ seated.uses_are i p ∙ ap (λ (o : Option SessionState). seat_uses o p) old_state;
    locks_are = λ p. ap (λ (k : ℕ). is_locker words k p) pass ∙ seated.locks_are i (seat_state old) old_state p;
  }

  module _ (now : PlainTokens) (new : Seat) (keeps : KeepsSeat words old now new) (after : List (Option Seat)) (is : after ≡ slice_set seats (i - 1) (Some new)) where
    new_seat : IsSeat mesh i new
    new_seat = record {
      over = keeps.over ∙ old_seat.over;
      session = keeps.number ∙ old_seat.session;
      pass = keeps.pass ∙ old_seat.pass;
    }

    pub are_seats_now : AreSeats mesh after
    are_seats_now = subst (AreSeats mesh) (sym is) (are_seats_set mesh seats i (Some new) are number (λ x same. subst (IsSeat mesh i) (same_Some new x same) new_seat))

    pub changes : ChangesSeat i (Some (seat_state new)) (words_seen words) (sessions_of seats) (words_seen now) (sessions_of after)
    changes = record {
      seats = ap sessions_of is ∙ sessions_set seats (i - 1) (Some new);
      keeps = subst (λ (k : ℕ). KeepsWords k (words_seen words) (words_seen now)) old_seat.pass keeps.keeps;
      uses = λ p. ap (λ (k : ℕ). is_user now k p) (sym new_seat.pass) ∙ keeps.has_pass.uses_are p;
      locked = λ s same p. ap (λ (k : ℕ). is_locker now k p) (sym new_seat.pass) ∙ keeps.has_pass.locks_are p ∙ ap (λ (x : SessionState). locks x p) (same_Some (seat_state new) s same);
    }

    pub seated_then : AreSeated mesh (words_seen now) (sessions_of after)
    seated_then =
        let over : IsSessionState mesh (seat_state new) = subst (λ (m : MeshLists). IsSessionState m (seat_state new)) new_seat.over keeps.is.is in
        seated_now (words_seen words) (sessions_of seats) many i number mesh (Some (seat_state new)) (words_seen now) (sessions_of after) changes
        (λ s same. subst (IsSessionState mesh) (same_Some (seat_state new) s same) over) seated

-- ---- the seat that is found

module _ (mesh : MeshLists) (seats : List (Option Seat)) (are : AreSeats mesh seats) (i : ℕ) (s : SessionState) (at : at_seat (sessions_of seats) i ≡ Some s) (o : Option Seat) (read : o ≡ slice_index_or seats (i - 1) o) where
  found_number : IsSession i
  found_number = seat_number (sessions_of seats) i s (sessions_many seats ∙ are.many) at

  here : at_seat seats i ≡ o
  here = seat_read seats i o are.many found_number read

  pub found : (seat : Seat) → o ≡ Some seat → at_seat seats i ≡ Some seat
  found seat is = here ∙ is

  pub missing : o ≡ None → ⊥
  missing none =
      let seen = sym (at_sessions seats i) ∙ at in
      let gone = ap (option_map seat_state) (here ∙ none) in cc
