-- What the calls on seats promise, as what a line does in the run.
use Rattle.std.proofs.Common.{◌≡◌, ℕ, List, Option, Some, Result, Ok, Err, sym, subst, ◌∙◌}
use Rattle.std.specs.Prelude.{IfOk, OnOk, OnErr, true}
use Rattle.mesh_model.specs.Meshes.{MeshLists}
use Rattle.script_model.specs.declared.orders.Order.{Order}
use Rattle.script_model.specs.declared.orders.Order.TheVariants as orders
use Rattle.session_model.specs.Sessions.{SessionState, settled}
use Rattle.session_model.specs.Finishes.{Steps, Finishes}
use Rattle.token_words.specs.Changes.{Stays}
use Rattle.token_words.specs.PlainTokens.{is_pinned_in, epoch_in}
use Rattle.token_words.specs.declared.entries.Entry.{Entry}
use Rattle.tier_model.specs.Tiers.{TierState}
use Rattle.wish_board.specs.Boards.{BoardSeen}
use Rattle.run_model.specs.Worlds.{World}
use Rattle.run_model.specs.States.{State}
use Rattle.run_model.specs.Lines.{Did, Does}
use Rattle.run_laws.specs.LineLaws.{does_reaches}
use Rattle.session_seats.specs.Boards.{IsBoardFor}
use Rattle.session_seats.specs.OrderLaws.{finished_reaches}
use Rattle.session_seats.specs.Orders.{DoesOrder, DoesPosting, ReachesSeats, LacksRound, StopsStep, StopsRound, FinishesRound}
use Rattle.session_seats.specs.SeatLaws.{seat_changed}
use Rattle.session_seats.specs.Seats.{SeatsSeen, AreSeated, at_seat, state_of}
use Rattle.view_machine.specs.Machines.{world_with, state_in, IsMachine}
use Rattle.view_machine.specs.MachineLaws.{KeepsMachine, keeps_machine}
use Rattle.view_machine.specs.Stops.{StopsAt, AtEvents}
use Rattle.view_machine.specs.OwnStops.{StopsBeforeRound, StopsIn, InStep, InFrame, Unprinted, own_stops}

-- whether it was done or refused memory, it is known where the run stands
pub does_either : {T E : Type 0} (w : World) (order : Order) (did : T → Did) (a b : State) (result : Result T E) → IfOk result (λ x. Does w a order (did x) b) → OnErr result (StopsIn w a order b) → StopsAt w a b
does_either w order did a b (Ok x) does stops = AtEvents (does_reaches w a b order (did x) does)
does_either w order did a b (Err e) does stops = own_stops w a order b stops

module _ (mesh : MeshLists) (bytes : Option (List ℕ)) (tiers : List TierState) (words : List Entry) (seats : SeatsSeen) (board : BoardSeen) (is : IsMachine mesh bytes tiers words seats board) where
  abbrev w : World
  w = world_with mesh bytes tiers

  module _ (words_now : List Entry) (seats_now : SeatsSeen) where
    pub seats_do : (order : Order) (did : Did) → DoesOrder order did words seats words_now seats_now → Does w (state_in tiers words seats board) order did (state_in tiers words_now seats_now board)
    seats_do order did does = does.does w (sym is.over) tiers board.views board.version

    pub seats_post : (order : Order) (did : Did) (board_now : BoardSeen) → DoesPosting order did words seats board.views board.version words_now seats_now board_now.views board_now.version
        → Does w (state_in tiers words seats board) order did (state_in tiers words_now seats_now board_now)
    seats_post order did board_now does = does.does w (sym is.over) tiers

    sessions_of : (i : ℕ) (s : SessionState) → at_seat seats.sessions i ≡ Some s → (state_in tiers words seats board).sessions i ≡ Some s
    unfolding state_of
    sessions_of i s at = at

    before_round : (i : ℕ) (last : SessionState) → ReachesSeats words seats words_now seats_now → LacksRound i last words seats words_now seats_now
        → StopsBeforeRound w (state_in tiers words seats board) i last (state_in tiers words_now seats_now board)
    before_round i last reaches lacks = record {
      reaches = reaches.reaches w (sym is.over) tiers board.views board.version;
      no_round = lacks.no_round;
      unused = lacks.unused;
      is = seat_changed words seats.sessions lacks.seats i lacks.number (Some (settled last)) words_now seats_now.sessions lacks.changes tiers board.views board.version;
    }

    -- a step that was refused memory
    pub step_stops : (i : ℕ) → ReachesSeats words seats words_now seats_now → StopsStep i words seats words_now seats_now
        → StopsIn w (state_in tiers words seats board) (orders.Step i) (state_in tiers words_now seats_now board)
    step_stops i reaches stops = InStep i stops.session (sessions_of i stops.session stops.was) (before_round i stops.session reaches stops.lacks)

    steps_of : (s : SessionState) (tries : List (ℕ × ℕ)) (last : SessionState) → Steps seats.mesh true (epoch_in words) s tries last
        → Steps w.mesh true (state_in tiers words seats board).chain.epochs s tries last
    unfolding state_of
    steps_of s tries last steps = subst (λ (m : MeshLists). Steps m true (epoch_in words) s tries last) is.over steps

    finishes_of : (s : SessionState) (tries : List (ℕ × ℕ)) (last : SessionState) → Finishes seats.mesh true (epoch_in words) s tries last
        → Finishes w.mesh true (state_in tiers words seats board).chain.epochs s tries last
    unfolding state_of
    finishes_of s tries last finishes = subst (λ (m : MeshLists). Finishes m true (epoch_in words) s tries last) is.over finishes

    -- the steps of a frame's line, whether they came to the end of the round or were refused memory
    round_stops : (i : ℕ) → ReachesSeats words seats words_now seats_now → StopsRound i words seats words_now seats_now
        → StopsIn w (state_in tiers words seats board) (orders.Frame i) (state_in tiers words_now seats_now board)
    round_stops i reaches stops =
        InFrame i stops.session stops.tries stops.last (sessions_of i stops.session stops.was) (steps_of stops.session stops.tries stops.last stops.steps)
        (before_round i stops.last reaches stops.lacks)

    round_done : (i : ℕ) → ReachesSeats words seats words_now seats_now → FinishesRound i words seats words_now seats_now
        → StopsIn w (state_in tiers words seats board) (orders.Frame i) (state_in tiers words_now seats_now board)
    round_done i reaches round = Unprinted i (record {
      reaches = reaches.reaches w (sym is.over) tiers board.views board.version;
      session = round.session;
      at = sessions_of i round.session round.was;
      tries = round.tries;
      last = round.last;
      finishes = finishes_of round.session round.tries round.last round.finishes;
      done = round.done;
      is = seat_changed words seats.sessions round.seats i round.number (Some round.last) words_now seats_now.sessions round.changes tiers board.views board.version;
    })

    pub finish_stops : {E : Type 0} (i : ℕ) (result : Result (Unit {0}) E) → OnOk result (FinishesRound i words seats words_now seats_now)
        → OnErr result (ReachesSeats words seats words_now seats_now) → OnErr result (StopsRound i words seats words_now seats_now)
        → StopsIn w (state_in tiers words seats board) (orders.Frame i) (state_in tiers words_now seats_now board)
    finish_stops i (Ok x) round reaches stops = round_done i (finished_reaches i words seats words_now seats_now round) round
    finish_stops i (Err e) round reaches stops = round_stops i reaches stops

    pub stop_keeps : (board_now : BoardSeen) → StopsAt w (state_in tiers words seats board) (state_in tiers words_now seats_now board_now) → seats_now.mesh ≡ seats.mesh → AreSeated seats_now.mesh words_now seats_now.sessions → IsBoardFor mesh board_now
        → Stays (is_pinned_in words) (is_pinned_in words_now) → KeepsMachine mesh bytes tiers tiers words_now seats_now board_now
    stop_keeps board_now stops same seated for pins =
        let over = same ∙ is.over in
        keeps_machine mesh bytes tiers tiers words words_now seats seats_now board board_now is stops for over
        (subst (λ (m : MeshLists). AreSeated m words_now seats_now.sessions) over seated) pins

    pub does_keep : (order : Order) (did : Did) (board_now : BoardSeen) → Does w (state_in tiers words seats board) order did (state_in tiers words_now seats_now board_now) → seats_now.mesh ≡ seats.mesh → AreSeated seats_now.mesh words_now seats_now.sessions → IsBoardFor mesh board_now
        → Stays (is_pinned_in words) (is_pinned_in words_now) → KeepsMachine mesh bytes tiers tiers words_now seats_now board_now
    does_keep order did board_now does same seated for pins =
        stop_keeps board_now (AtEvents (does_reaches w (state_in tiers words seats board) (state_in tiers words_now seats_now board_now) order did does)) same seated for pins
