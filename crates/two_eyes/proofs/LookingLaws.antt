-- What is known of a session by what is told of it.
use Rattle.std.proofs.Common.{◌≡◌, ℕ, ◌^◌, ◌<◌, List, Option, Some, None, refl, sym, ap, subst, ◌∙◌, arith}
use Rattle.std.specs.Prelude.{option_map}
use Rattle.std.specs.Option.{option_map_or}
use Rattle.std.proofs.lemmas.Option.{same_Some}
use Rattle.round_model.specs.Views.{ViewSeen}
use Rattle.session_model.specs.Sessions.{SessionState}
use Rattle.session_model.specs.Told.{SessionTold, session_told, told_view}
use Rattle.run_model.specs.RunTexts.{IsOpening}
use Rattle.run_model.specs.States.{State, opening}
use Rattle.session_seats.specs.Seats.{at_seat, IsOpen, HasView, seat_told, state_of}
use Rattle.token_words.specs.Changes.{SetAt}
use Rattle.view_machine.specs.LineEnds.{frames_at}
use Rattle.view_machine.specs.Machines.{MachineSeen, world_of, run_state}
use Rattle.two_eyes.specs.Looking.{Looks}

-- the session of which this is told
record IsTold (seat : Option SessionState) (told : SessionTold) : Type 0 where
  session : SessionState
  at : seat ≡ Some session
  is : session_told session ≡ told

told_seat : (seat : Option SessionState) (told : SessionTold) → option_map session_told seat ≡ Some told → IsTold seat told
told_seat None told is = absurd cc
told_seat (Some s) told is = record { session = s; at = refl; is = same_Some (session_told s) told is }

untold : (seat : Option SessionState) → option_map session_told seat ≡ None → seat ≡ None
untold None is = refl
untold (Some s) is = absurd cc

pub told_open : (sessions : List (Option SessionState)) (i : ℕ) (told : SessionTold) → seat_told sessions i ≡ Some told → IsOpen sessions i
told_open sessions i told is = let seat = told_seat (at_seat sessions i) told is in record { session = seat.session; at = seat.at }

pub looks_on : (sessions : List (Option SessionState)) (i : ℕ) → Looks sessions i → HasView sessions i
looks_on sessions i looks =
    let seat = told_seat (at_seat sessions i) looks.told looks.is in
    record { session = seat.session; at = seat.at; view = looks.view; viewed = ap (λ (t : SessionTold). t.view) seat.is ∙ looks.viewed }

pub few_frames : (sessions : List (Option SessionState)) (i : ℕ) → Looks sessions i → frames_at sessions i < 2 ^ 63
few_frames sessions i looks =
    let seat = told_seat (at_seat sessions i) looks.told looks.is in
    let same : frames_at sessions i ≡ looks.told.frames = ap (λ (s : Option SessionState). option_map_or (λ (s : SessionState). s.frames) s 0) seat.at ∙ ap (λ (t : SessionTold). t.frames) seat.is in
    let few = looks.few in
    omega (arith, same, few)

-- a session that another one's change leaves closed
pub still_closed : (old new : List (Option SessionState)) (i j : ℕ) (told : Option SessionTold) → SetAt (seat_told old) i told (seat_told new) → (j ≡ i → ⊥) → at_seat old j ≡ None → at_seat new j ≡ None
still_closed old new i j told set other closed = untold (at_seat new j) (set.others j other ∙ ap (option_map session_told) closed)

-- a change behind another at one place
pub set_twice : (old mid new : ℕ → Option SessionTold) (i : ℕ) (first second : Option SessionTold) → SetAt old i first mid → SetAt mid i second new → SetAt old i second new
set_twice old mid new i first second set then = record { here = then.here; others = λ j other. then.others j other ∙ set.others j other }

pub looks_told : (sessions : List (Option SessionState)) (i : ℕ) (told : SessionTold) (view : ViewSeen) → seat_told sessions i ≡ Some told → told.view ≡ Some view → told.frames < 2 ^ 62 → Looks sessions i
looks_told sessions i told view is viewed few = record { told = told; is = is; view = view; viewed = viewed; few = few }

-- a machine that has just opened has no open session, and its board has the version 0
module _ {S : Type 0} (m : MachineSeen S) (opens : IsOpening (world_of m) (run_state m)) where
  pub all_closed : (i : ℕ) → at_seat m.seats.sessions i ≡ None
  unfolding state_of opening
  all_closed i = ap (λ (s : State). s.sessions i) opens.is

  pub first_version : m.board.version ≡ 0
  unfolding state_of opening
  first_version = ap (λ (s : State). s.version) opens.is
