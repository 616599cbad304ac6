-- What a call does, where one session at its seat goes on.
use Rattle.std.proofs.Common.{◌≡◌, ℕ, ◌-◌, true, false, List, [], Option, Some, None, sym, ap, subst, ◌∙◌}
use Rattle.std.specs.Prelude.{slice_set}
use Rattle.std.proofs.lemmas.Option.{same_Some}
use Rattle.mesh_model.specs.Meshes.{MeshLists}
use Rattle.round_model.specs.Views.{ViewSeen}
use Rattle.script_model.specs.declared.orders.Order.TheVariants as orders
use Rattle.session_model.specs.declared.steps.Stepped.{Stepped}
use Rattle.session_model.specs.Sessions.{SessionState, is_left_over, uses, settled}
use Rattle.session_model.specs.Steps.{stepped, step}
use Rattle.session_laws.specs.StateLaws.{none_used}
use Rattle.session_model.specs.Finishes.{Steps, NoStep, Finishes}
use Rattle.token_words.specs.Changes.{Stays}
use Rattle.token_words.specs.PlainTokens.{words_seen, epoch_in}
use Rattle.token_words.specs.declared.plain_words.PlainTokens.{PlainTokens}
use Rattle.run_model.specs.Lines.{DidStep}
use Rattle.session_model.specs.Freeing.{FreesAll}
use Rattle.session_seats.specs.declared.seat.Seat.{Seat}
use Rattle.session_seats.specs.Seats.{SeatsSeen, at_seat, AreSeated, HasView, seat_told}
use Rattle.session_model.specs.Told.{session_told}
use Rattle.session_seats.specs.SeatChanges.{ChangesSeat}
use Rattle.session_seats.specs.Orders.{DoesOrder, ReachesSeats, LacksRound, StopsStep, StopsRound, FinishesRound, FreesUses}
use Rattle.session_seats.specs.SeatLaws.{seat_is, told_stays}
use Rattle.session_seats.specs.OrderLaws.{steps, frees, stops}
use Rattle.session_laws.specs.ToldLaws.{told_settled, settled_flight, told_stepped, told_steps, told_finishes, told_frees}
use Rattle.session_seats.specs.SeatParts.{seat_state, sessions_of, AreSeats}
use Rattle.session_seats.specs.SeatSteps.{KeepsSeat, SeatSteps, SeatStops, SeatFinishes, SeatStopsAfter}
use Rattle.session_seats.proofs.PartLaws.{old_seat, number, old_state, many, changes}

abbrev pub seats_seen : MeshLists → List (Option Seat) → SeatsSeen
seats_seen mesh seats = record { mesh = mesh; sessions = sessions_of seats }

module _ (mesh : MeshLists) (seats : List (Option Seat)) (words : PlainTokens) (i : ℕ) (old : Seat) (are : AreSeats mesh seats) (seated : AreSeated mesh (words_seen words) (sessions_of seats)) (at : at_seat seats i ≡ Some old) where
  -- the session that is seen to have a view is the seat's
  pub old_view : HasView (sessions_of seats) i → (view : ViewSeen) × ((seat_state old).view ≡ Some view)
  old_view has =
      let same = same_Some (seat_state old) has.session (sym (old_state mesh seats words i old are seated at) ∙ has.at) in
      (has.view, ap (λ (s : SessionState). s.view) same ∙ has.viewed)

  module _ (now : PlainTokens) (new : Seat) (keeps : KeepsSeat words old now new) (after : List (Option Seat)) (is : after ≡ slice_set seats (i - 1) (Some new)) where
    abbrev before : SeatsSeen
    before = seats_seen mesh seats

    abbrev then : SeatsSeen
    then = seats_seen mesh after

    moved : ChangesSeat i (Some (seat_state new)) (words_seen words) (sessions_of seats) (words_seen now) (sessions_of after)
    moved = changes mesh seats words i old are seated at now new keeps after is

    told : session_told (seat_state new) ≡ session_told (seat_state old) → Stays (seat_told (sessions_of seats)) (seat_told (sessions_of after))
    told same = told_stays (words_seen words) (sessions_of seats) (many mesh seats words i old are seated at) i (number mesh seats words i old are seated at) (seat_state old) (seat_state new) (sessions_of after) (old_state mesh seats words i old are seated at) same moved.seats

    over : old.session.mesh ≡ mesh
    over = (old_seat mesh seats words i old are seated at).over

    -- ---- a step

    pub step_does : HasView (sessions_of seats) i → (did : Stepped) → SeatSteps (words_seen words) old did new → DoesOrder (orders.Step i) (DidStep i did) (words_seen words) before (words_seen now) then
    step_does has did made =
        let viewed = old_view has in
        steps mesh (words_seen words) (sessions_of seats) seated (many mesh seats words i old are seated at) i (number mesh seats words i old are seated at) (words_seen now) then (seat_state old) (old_state mesh seats words i old are seated at)
        viewed.0 viewed.1 did (seat_state new) made.epoch (made.is ∙ ap (λ (m : MeshLists). step m (seat_state old) made.epoch) over) made.of_epochs moved

    pub step_told : (did : Stepped) → SeatSteps (words_seen words) old did new → Stays (seat_told (sessions_of seats)) (seat_told (sessions_of after))
    step_told did made = told (told_stepped old.session.mesh (seat_state old) (stepped did (seat_state new)) made.epoch made.is)

    -- ---- steps that stop

    stopped : HasView (sessions_of seats) i → (tries : List (ℕ × ℕ)) (last : SessionState) → Steps mesh true (epoch_in (words_seen words)) (seat_state old) tries last → (seat_state new).flight ≡ None → ((p : ℕ) → is_left_over (seat_state new) p ≡ false) → seat_state new ≡ settled last → ReachesSeats (words_seen words) before (words_seen now) then
    stopped has tries last made no_flight no_old same =
        let viewed = old_view has in
        let P : SessionState → Type 0 = λ t. ChangesSeat i (Some t) (words_seen words) (sessions_of seats) (words_seen now) (sessions_of after) in
        stops mesh (words_seen words) (sessions_of seats) seated (many mesh seats words i old are seated at) i (number mesh seats words i old are seated at) (words_seen now) then (seat_state old) (old_state mesh seats words i old are seated at)
        viewed.0 viewed.1 tries last made (sym (settled_flight last) ∙ ap (λ (t : SessionState). t.flight) (sym same) ∙ no_flight) (λ p. ap (λ (t : SessionState). is_left_over t p) (sym same) ∙ no_old p) (subst P same moved)

    pub step_stops : HasView (sessions_of seats) i → SeatStops old new → ReachesSeats (words_seen words) before (words_seen now) then
    step_stops has made = stopped has [] (seat_state old) NoStep made.no_flight made.no_old made.is

    pub step_stops_told : SeatStops old new → Stays (seat_told (sessions_of seats)) (seat_told (sessions_of after))
    step_stops_told made = told (ap session_told made.is ∙ told_settled (seat_state old))

    pub finish_stops : HasView (sessions_of seats) i → SeatStopsAfter (words_seen words) old new → ReachesSeats (words_seen words) before (words_seen now) then
    finish_stops has made = stopped has made.tries made.last (let P : MeshLists → Type 0 = λ m. Steps m true (epoch_in (words_seen words)) (seat_state old) made.tries made.last in subst P over made.steps) made.no_flight made.no_old made.is

    pub finish_stops_told : SeatStopsAfter (words_seen words) old new → Stays (seat_told (sessions_of seats)) (seat_told (sessions_of after))
    finish_stops_told made = told (ap session_told made.is ∙ told_settled made.last ∙ told_steps old.session.mesh true (epoch_in (words_seen words)) (seat_state old) made.tries made.last made.steps)

    -- ---- what stands where a round was to begin

    lacking : (last : SessionState) → seat_state new ≡ settled last → (seat_state new).round ≡ None → ((p : ℕ) → is_left_over (seat_state new) p ≡ false) → (seat_state new).flight ≡ None → LacksRound i last (words_seen words) before (words_seen now) then
    lacking last same no_round no_old no_flight =
        let Moves : SessionState → Type 0 = λ t. ChangesSeat i (Some t) (words_seen words) (sessions_of seats) (words_seen now) (sessions_of after) in
        let Unused : SessionState → Type 0 = λ t. (p : ℕ) → uses t p ≡ false in
        record {
          seats = many mesh seats words i old are seated at;
          number = number mesh seats words i old are seated at;
          no_round = subst (λ (t : SessionState). t.round ≡ None) same no_round;
          unused = subst Unused same (none_used (seat_state new) no_round no_old no_flight);
          changes = subst Moves same moved;
        }

    pub step_lacks : SeatStops old new → StopsStep i (words_seen words) before (words_seen now) then
    step_lacks made = record {
      session = seat_state old;
      was = old_state mesh seats words i old are seated at;
      lacks = lacking (seat_state old) made.is made.no_round made.no_old made.no_flight;
    }

    pub finish_lacks : SeatStopsAfter (words_seen words) old new → StopsRound i (words_seen words) before (words_seen now) then
    finish_lacks made = record {
      session = seat_state old;
      was = old_state mesh seats words i old are seated at;
      tries = made.tries;
      last = made.last;
      steps = let P : MeshLists → Type 0 = λ m. Steps m true (epoch_in (words_seen words)) (seat_state old) made.tries made.last in subst P over made.steps;
      lacks = lacking made.last made.is made.no_round made.no_old made.no_flight;
    }

    -- ---- a round that is done

    pub finish_does : HasView (sessions_of seats) i → SeatFinishes (words_seen words) old new → FinishesRound i (words_seen words) before (words_seen now) then
    finish_does has made = let viewed = old_view has in record {
      seats = many mesh seats words i old are seated at;
      number = number mesh seats words i old are seated at;
      session = seat_state old;
      was = old_state mesh seats words i old are seated at;
      view = viewed.0;
      viewed = viewed.1;
      tries = made.tries;
      last = seat_state new;
      finishes = let P : MeshLists → Type 0 = λ m. Finishes m true (epoch_in (words_seen words)) (seat_state old) made.tries (seat_state new) in subst P over made.finishes;
      done = made.done;
      is = ap (λ (x : List (Option SessionState)). at_seat x i) moved.seats ∙ seat_is (sessions_of seats) (many mesh seats words i old are seated at) i (Some (seat_state new)) (number mesh seats words i old are seated at);
      changes = moved;
    }

    pub finish_told : SeatFinishes (words_seen words) old new → Stays (seat_told (sessions_of seats)) (seat_told (sessions_of after))
    finish_told made = told (told_finishes old.session.mesh true (epoch_in (words_seen words)) (seat_state old) made.tries (seat_state new) made.finishes)

    -- ---- no use

    pub free_does : (unlocks : ℕ) → FreesAll (seat_state old) unlocks (seat_state new) → FreesUses i (words_seen words) before unlocks (words_seen now) then
    free_does unlocks all = record {
      seats = many mesh seats words i old are seated at;
      number = number mesh seats words i old are seated at;
      session = seat_state old;
      was = old_state mesh seats words i old are seated at;
      last = seat_state new;
      frees = all;
      changes = moved;
    }

    pub free_told : (unlocks : ℕ) → FreesAll (seat_state old) unlocks (seat_state new) → Stays (seat_told (sessions_of seats)) (seat_told (sessions_of after))
    free_told unlocks all = told (told_frees (seat_state old) (seat_state new) unlocks all)
