-- What calls promise, in what their callers see.
use Rattle.std.proofs.Common.{◌≡◌, ℕ, ◌-◌, List, Option, Some, None, Result, Ok, Err, IfOk, IfErr, OnOk, OnErr, refl, sym, ap, subst, ◌∙◌}
use Rattle.std.specs.Prelude.{slice_index_or, slice_set}
use Rattle.mesh_model.specs.Meshes.{MeshLists}
use Rattle.script_model.specs.declared.orders.Order.TheVariants as orders
use Rattle.session_model.specs.declared.steps.Stepped.{Stepped}
use Rattle.session_model.specs.Sessions.{SessionState}
use Rattle.token_words.specs.Changes.{Stays}
use Rattle.token_words.specs.PlainTokens.{words_seen}
use Rattle.token_words.specs.declared.plain_words.PlainTokens.{PlainTokens}
use Rattle.run_model.specs.Lines.{DidStep}
use Rattle.session_model.specs.Freeing.{FreesAll}
use Rattle.session_seats.specs.declared.seat.Seat.{Seat}
use Rattle.session_seats.specs.Seats.{SeatsSeen, at_seat, AreSeated, HasView, seat_told}
use Rattle.session_seats.specs.SeatChanges.{KeepsWords}
use Rattle.session_seats.specs.Orders.{DoesOrder, ReachesSeats, StopsStep, StopsRound, FinishesRound, FreesUses}
use Rattle.session_seats.specs.SeatParts.{seat_state, sessions_of, AreSeats, HasPass}
use Rattle.session_seats.specs.SeatSteps.{KeepsSeat, SeatSteps, SeatStops, SeatFinishes, SeatStopsAfter}
use Rattle.session_seats.proofs.PartLaws.{found, missing, has_pass, changes, seated_then, are_seats_now}
use Rattle.session_seats.proofs.CallLaws as calls
use Rattle.session_seats.proofs.CallLaws.{seats_seen}

-- the seat of this number was found, over words that are the sessions'
pub record IsFound (mesh : MeshLists) (seats : List (Option Seat)) (words : PlainTokens) (i : ℕ) (seat : Seat) : Type 0 where
  pub are : AreSeats mesh seats
  pub seated : AreSeated mesh (words_seen words) (sessions_of seats)
  pub at : at_seat seats i ≡ Some seat

module _ (mesh : MeshLists) (seats : List (Option Seat)) (seen : SeatsSeen) (same : seats_seen mesh seats ≡ seen) (are : AreSeats mesh seats) (i : ℕ) (s : SessionState) (at : at_seat seen.sessions i ≡ Some s) (o : Option Seat) (read : o ≡ slice_index_or seats (i - 1) o) where
  pub there : at_seat (sessions_of seats) i ≡ Some s
  there = ap (λ (x : SeatsSeen). at_seat x.sessions i) same ∙ at

  pub found_seat : (seat : Seat) → o ≡ Some seat → at_seat seats i ≡ Some seat
  found_seat seat is = found mesh seats are i s there o read seat is

  pub none_missing : o ≡ None → ⊥
  none_missing none = missing mesh seats are i s there o read none

  pub found_by : (words : PlainTokens) → AreSeated seen.mesh (words_seen words) seen.sessions → (seat : Seat) → o ≡ Some seat → IsFound mesh seats words i seat
  found_by words seated seat is = record {
    are = are;
    seated = let P : SeatsSeen → Type 0 = λ x. AreSeated x.mesh (words_seen words) x.sessions in subst P (sym same) seated;
    at = found_seat seat is;
  }

pub view_in : (mesh : MeshLists) (seats : List (Option Seat)) (seen : SeatsSeen) → seats_seen mesh seats ≡ seen → (i : ℕ) → HasView seen.sessions i → HasView (sessions_of seats) i
view_in mesh seats seen same i has = let P : SeatsSeen → Type 0 = λ x. HasView x.sessions i in subst P (sym same) has

pub pass_found : (mesh : MeshLists) (seats : List (Option Seat)) (words : PlainTokens) (i : ℕ) (seat : Seat) → IsFound mesh seats words i seat → HasPass words seat
pass_found mesh seats words i seat f = has_pass mesh seats words i seat f.are f.seated f.at

either : {T E : Type 0} (r : Result T E) (P : T → Type 0) (Q X : Type 0) → IfOk r P → IfErr r (λ _. Q) → ((x : T) → P x → X) → (Q → X) → X
either (Ok x) P Q X ok err good bad = good x ok
either (Err e) P Q X ok err good bad = bad err

on_err : {T E : Type 0} (r : Result T E) (P Q : Type 0) → (P → Q) → IfErr r (λ _. P) → OnErr r Q
on_err (Ok x) P Q then is = tt
on_err (Err e) P Q then is = then is

on_ok : {T E : Type 0} (r : Result T E) (P Q : Type 0) → (P → Q) → IfOk r (λ _. P) → OnOk r Q
on_ok (Ok x) P Q then is = then is
on_ok (Err e) P Q then is = tt

if_ok : {T E : Type 0} (r : Result T E) (P Q : T → Type 0) → ((x : T) → P x → Q x) → IfOk r P → IfOk r Q
if_ok (Ok x) P Q then is = then x is
if_ok (Err e) P Q then is = tt

module _ (mesh : MeshLists) (seats : List (Option Seat)) (seen : SeatsSeen) (same : seats_seen mesh seats ≡ seen) (words : PlainTokens) (i : ℕ) (old : Seat) (f : IsFound mesh seats words i old) (now : PlainTokens) (new : Seat) (keeps : KeepsSeat words old now new) where
  abbrev after : List (Option Seat)
  after = slice_set seats (i - 1) (Some new)

  abbrev then : SeatsSeen
  then = seats_seen mesh after

  pub still_seats : AreSeats mesh after
  still_seats = are_seats_now mesh seats words i old f.are f.seated f.at now new keeps after refl

  pub still_seated : AreSeated mesh (words_seen now) (sessions_of after)
  still_seated = seated_then mesh seats words i old f.are f.seated f.at now new keeps after refl

  pub keeps_words : KeepsWords i (words_seen words) (words_seen now)
  keeps_words = (changes mesh seats words i old f.are f.seated f.at now new keeps after refl).keeps

  had_view : HasView seen.sessions i → HasView (sessions_of seats) i
  had_view has = view_in mesh seats seen same i has

  stays_seen : Stays (seat_told (sessions_of seats)) (seat_told (sessions_of after)) → Stays (seat_told seen.sessions) (seat_told (sessions_of after))
  stays_seen stays = let P : SeatsSeen → Type 0 = λ x. Stays (seat_told x.sessions) (seat_told (sessions_of after)) in subst P same stays

  reaches_seen : ReachesSeats (words_seen words) (seats_seen mesh seats) (words_seen now) then → ReachesSeats (words_seen words) seen (words_seen now) then
  reaches_seen reaches = let P : SeatsSeen → Type 0 = λ x. ReachesSeats (words_seen words) x (words_seen now) then in subst P same reaches

  module _ {E : Type 0} (result : Result Stepped E) (has : HasView seen.sessions i) where
    pub steps_ok : IfOk result (λ did. SeatSteps (words_seen words) old did new) → IfOk result (λ did. DoesOrder (orders.Step i) (DidStep i did) (words_seen words) seen (words_seen now) then)
    steps_ok made =
        if_ok result (λ did. SeatSteps (words_seen words) old did new) (λ did. DoesOrder (orders.Step i) (DidStep i did) (words_seen words) seen (words_seen now) then)
        (λ did one. let P : SeatsSeen → Type 0 = λ x. DoesOrder (orders.Step i) (DidStep i did) (words_seen words) x (words_seen now) then in
        subst P same (calls.step_does mesh seats words i old f.are f.seated f.at now new keeps after refl (had_view has) did one)) made

    pub steps_err : IfErr result (λ _. SeatStops old new) → OnErr result (ReachesSeats (words_seen words) seen (words_seen now) then)
    steps_err stops = on_err result (SeatStops old new) (ReachesSeats (words_seen words) seen (words_seen now) then) (λ one. reaches_seen (calls.step_stops mesh seats words i old f.are f.seated f.at now new keeps after refl (had_view has) one)) stops

    pub steps_stop : IfErr result (λ _. SeatStops old new) → OnErr result (StopsStep i (words_seen words) seen (words_seen now) then)
    steps_stop stops =
        on_err result (SeatStops old new) (StopsStep i (words_seen words) seen (words_seen now) then)
        (λ one. let P : SeatsSeen → Type 0 = λ x. StopsStep i (words_seen words) x (words_seen now) then in
        subst P same (calls.step_lacks mesh seats words i old f.are f.seated f.at now new keeps after refl one)) stops

    pub steps_told : IfOk result (λ did. SeatSteps (words_seen words) old did new) → IfErr result (λ _. SeatStops old new) → Stays (seat_told seen.sessions) (seat_told (sessions_of after))
    steps_told made stops =
        either result (λ did. SeatSteps (words_seen words) old did new) (SeatStops old new) (Stays (seat_told seen.sessions) (seat_told (sessions_of after))) made stops
        (λ did one. stays_seen (calls.step_told mesh seats words i old f.are f.seated f.at now new keeps after refl did one))
        (λ one. stays_seen (calls.step_stops_told mesh seats words i old f.are f.seated f.at now new keeps after refl one))

  module _ {E : Type 0} (result : Result (Unit {0}) E) (has : HasView seen.sessions i) where
    pub finish_ok : IfOk result (λ _. SeatFinishes (words_seen words) old new) → OnOk result (FinishesRound i (words_seen words) seen (words_seen now) then)
    finish_ok made =
        on_ok result (SeatFinishes (words_seen words) old new) (FinishesRound i (words_seen words) seen (words_seen now) then)
        (λ one. let P : SeatsSeen → Type 0 = λ x. FinishesRound i (words_seen words) x (words_seen now) then in
        subst P same (calls.finish_does mesh seats words i old f.are f.seated f.at now new keeps after refl (had_view has) one)) made

    pub finish_err : IfErr result (λ _. SeatStopsAfter (words_seen words) old new) → OnErr result (ReachesSeats (words_seen words) seen (words_seen now) then)
    finish_err stops = on_err result (SeatStopsAfter (words_seen words) old new) (ReachesSeats (words_seen words) seen (words_seen now) then) (λ one. reaches_seen (calls.finish_stops mesh seats words i old f.are f.seated f.at now new keeps after refl (had_view has) one)) stops

    pub finish_stops : IfErr result (λ _. SeatStopsAfter (words_seen words) old new) → OnErr result (StopsRound i (words_seen words) seen (words_seen now) then)
    finish_stops stops =
        on_err result (SeatStopsAfter (words_seen words) old new) (StopsRound i (words_seen words) seen (words_seen now) then)
        (λ one. let P : SeatsSeen → Type 0 = λ x. StopsRound i (words_seen words) x (words_seen now) then in
        subst P same (calls.finish_lacks mesh seats words i old f.are f.seated f.at now new keeps after refl one)) stops

    pub finish_told : IfOk result (λ _. SeatFinishes (words_seen words) old new) → IfErr result (λ _. SeatStopsAfter (words_seen words) old new) → Stays (seat_told seen.sessions) (seat_told (sessions_of after))
    finish_told made stops =
        either result (λ _. SeatFinishes (words_seen words) old new) (SeatStopsAfter (words_seen words) old new) (Stays (seat_told seen.sessions) (seat_told (sessions_of after))) made stops
        (λ _ one. stays_seen (calls.finish_told mesh seats words i old f.are f.seated f.at now new keeps after refl one))
        (λ one. stays_seen (calls.finish_stops_told mesh seats words i old f.are f.seated f.at now new keeps after refl one))

  pub frees_seen : (unlocks : ℕ) → FreesAll (seat_state old) unlocks (seat_state new) → FreesUses i (words_seen words) seen unlocks (words_seen now) then
  frees_seen unlocks all =
      let P : SeatsSeen → Type 0 = λ x. FreesUses i (words_seen words) x unlocks (words_seen now) then in
      subst P same (calls.free_does mesh seats words i old f.are f.seated f.at now new keeps after refl unlocks all)

  pub frees_told : (unlocks : ℕ) → FreesAll (seat_state old) unlocks (seat_state new) → Stays (seat_told seen.sessions) (seat_told (sessions_of after))
  frees_told unlocks all = stays_seen (calls.free_told mesh seats words i old f.are f.seated f.at now new keeps after refl unlocks all)
