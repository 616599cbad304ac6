use Rattle.std.proofs.Common.{ℕ, List, Option, IfOk, OnErr, refl, sym, subst}
use Rattle.token_words.specs.Changes.{Stays}
use Rattle.session_seats.specs.Seats.{seat_told, SeatsSeen, AreSeated}
use Rattle.mesh_model.specs.Meshes.{MeshLists}
use Rattle.view_outside.specs.Files.{file_bytes}
use Rattle.script_model.specs.declared.orders.Order.TheVariants as orders
use Rattle.token_words.specs.PlainTokens.{words_seen}
use Rattle.token_words.specs.declared.entries.Entry.{Entry}
use Rattle.tier_model.specs.Tiers.{TierState}
use Rattle.wish_board.specs.Boards.{BoardSeen}
use Rattle.run_model.specs.Lines.{DidStep, Does}
use Rattle.view_machine.specs.Machines.{MachineSeen, world_of, run_state, world_with, state_in, KeepsPlace, IsMachine}
use Rattle.view_machine.specs.MachineLaws.{KeepsMachine}
use Rattle.view_machine.specs.SeatLines.{does_either, seats_do, step_stops, stop_keeps}
use Rattle.view_machine.specs.OwnStops.{StopsIn}
use Rattle.view_machine.specs.TurnClauses.{if_ok_then, if_err_both}
use Rattle.view_machine.proofs.machines.Machine.step_session.Goals as goal
use Rattle.view_machine.proofs.machines.Machine.step_session.Given as given

pub step-requires-clause-seated : goal.step-requires-clause-seated
step-requires-clause-seated g c =
    let m = c.self.inside in
    subst (λ (lists : MeshLists). AreSeated lists (words_seen m.words) m.seats.sessions) (sym c.self.invariant.over) c.self.invariant.seated

module _ (g : given.Over) (c : goal.After-step g) where
  abbrev mesh : MeshLists
  mesh = c.self.inside.chain.mesh.lists

  abbrev bytes : Option (List ℕ)
  bytes = file_bytes (g.S.Store.files c.self.inside.chain.store) c.self.inside.chain.file

  abbrev tiers : List TierState
  tiers = c.self.inside.chain.tiers

  abbrev words : List Entry
  words = words_seen c.self.inside.words

  abbrev words_now : List Entry
  words_now = words_seen c.step.new.words

  abbrev seats : SeatsSeen
  seats = c.self.inside.seats

  abbrev seats_now : SeatsSeen
  seats_now = c.step.new.self

  abbrev board : BoardSeen
  board = c.self.inside.board

  abbrev is : IsMachine mesh bytes tiers words seats board
  is = c.self.invariant

  does : IfOk c.step.result (λ did. Does (world_with mesh bytes tiers) (state_in tiers words seats board) (orders.Step c.args.session) (DidStep c.args.session did) (state_in tiers words_now seats_now board))
  does = if_ok_then c.step.result (λ did one. seats_do mesh bytes tiers words seats board is words_now seats_now (orders.Step c.args.session) (DidStep c.args.session did) one) c.step.ensures.does

  stops : OnErr c.step.result (StopsIn (world_with mesh bytes tiers) (state_in tiers words seats board) (orders.Step c.args.session) (state_in tiers words_now seats_now board))
  stops = if_err_both c.step.result (λ reaches stopped. step_stops mesh bytes tiers words seats board is words_now seats_now c.args.session reaches stopped) c.step.ensures.none c.step.ensures.stops

  abbrev seen_now : MachineSeen g.row.S.Denot
  seen_now = record { chain = c.self.inside.chain; words = words_now; seats = seats_now; board = board; bytes = bytes }

  kept : KeepsMachine mesh bytes tiers tiers words_now seats_now board
  kept =
      let e = c.step.ensures in
      stop_keeps mesh bytes tiers words seats board is words_now seats_now board
      (does_either (world_with mesh bytes tiers) (orders.Step c.args.session) (λ did. DidStep c.args.session did) (state_in tiers words seats board) (state_in tiers words_now seats_now board) c.step.result does stops)
      e.mesh e.seated is.on_board e.words.pins

pub invariant_of-self : goal.invariant_of-self
invariant_of-self g c = (kept g c).is

pub returns-clause-does : goal.returns-clause-does
returns-clause-does g c =
    subst (λ (m : MachineSeen g.row.S.Denot). IfOk c.step.result (λ did. Does (world_of m) (run_state m) (orders.Step c.args.session) (DidStep c.args.session did) (state_in (tiers g c) (words_now g c) (seats_now g c) (board g c)))) c.self.view_is (does g c)

pub returns-clause-none : goal.returns-clause-none
returns-clause-none g c =
    subst (λ (m : MachineSeen g.row.S.Denot). OnErr c.step.result (StopsIn (world_of m) (run_state m) (orders.Step c.args.session) (state_in (tiers g c) (words_now g c) (seats_now g c) (board g c)))) c.self.view_is (stops g c)

pub returns-clause-place : goal.returns-clause-place
returns-clause-place g c =
    subst (λ (m : MachineSeen g.row.S.Denot). KeepsPlace m (seen_now g c)) c.self.view_is (record { world = (kept g c).world; mesh = refl; file = refl; bytes = refl; lender = refl })

pub returns-clause-told : goal.returns-clause-told
returns-clause-told g c =
    subst (λ (m : MachineSeen g.row.S.Denot). Stays (seat_told m.seats.sessions) (seat_told (seats_now g c).sessions)) c.self.view_is c.step.ensures.told
