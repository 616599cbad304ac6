use Rattle.script_model.specs.declared.orders.Order.TheVariants as orders
use Rattle.std.proofs.Common.{ℕ, List, Option, refl, sym, subst}
use Rattle.std.specs.Prelude.{OnOk}
use Rattle.mesh_model.specs.Meshes.{MeshLists}
use Rattle.view_outside.specs.Files.{file_bytes}
use Rattle.token_words.specs.Changes.{Stays}
use Rattle.token_words.specs.PlainTokens.{words_seen}
use Rattle.token_words.specs.declared.entries.Entry.{Entry}
use Rattle.tier_model.specs.Tiers.{TierState}
use Rattle.wish_board.specs.Boards.{BoardSeen}
use Rattle.session_seats.specs.Orders.{FinishesRound}
use Rattle.session_seats.specs.Seats.{SeatsSeen, AreSeated, seat_told}
use Rattle.view_machine.specs.Machines.{MachineSeen, world_of, run_state, world_with, state_in, KeepsPlace, IsMachine}
use Rattle.view_machine.specs.MachineLaws.{KeepsMachine}
use Rattle.view_machine.specs.SeatLines.{finish_stops, stop_keeps}
use Rattle.view_machine.specs.OwnStops.{StopsIn, own_stops}
use Rattle.view_machine.proofs.machines.Machine.finish_session.Goals as goal
use Rattle.view_machine.proofs.machines.Machine.finish_session.Given as given

pub finish-requires-clause-seated : goal.finish-requires-clause-seated
finish-requires-clause-seated g c =
    let m = c.self.inside in
    subst (λ (lists : MeshLists). AreSeated lists (words_seen m.words) m.seats.sessions) (sym c.self.invariant.over) c.self.invariant.seated

module _ (g : given.Over) (c : goal.After-finish g) where
  abbrev mesh : MeshLists
  mesh = c.self.inside.chain.mesh.lists

  abbrev bytes : Option (List ℕ)
  bytes = file_bytes (g.S.Store.files c.self.inside.chain.store) c.self.inside.chain.file

  abbrev tiers : List TierState
  tiers = c.self.inside.chain.tiers

  abbrev words : List Entry
  words = words_seen c.self.inside.words

  abbrev words_now : List Entry
  words_now = words_seen c.finish.new.words

  abbrev seats : SeatsSeen
  seats = c.self.inside.seats

  abbrev seats_now : SeatsSeen
  seats_now = c.finish.new.self

  abbrev board : BoardSeen
  board = c.self.inside.board

  abbrev is : IsMachine mesh bytes tiers words seats board
  is = c.self.invariant

  stops : StopsIn (world_with mesh bytes tiers) (state_in tiers words seats board) (orders.Frame c.args.session) (state_in tiers words_now seats_now board)
  stops =
      finish_stops mesh bytes tiers words seats board is words_now seats_now c.args.session c.finish.result c.finish.ensures.round
      c.finish.ensures.none c.finish.ensures.stops

  abbrev seen_now : MachineSeen g.row.S.Denot
  seen_now = record { chain = c.self.inside.chain; words = words_now; seats = seats_now; board = board; bytes = bytes }

  kept : KeepsMachine mesh bytes tiers tiers words_now seats_now board
  kept =
      let e = c.finish.ensures in
      stop_keeps mesh bytes tiers words seats board is words_now seats_now board (own_stops (world_with mesh bytes tiers) (state_in tiers words seats board) (orders.Frame c.args.session) (state_in tiers words_now seats_now board) stops) e.mesh e.seated is.on_board e.words.pins

pub invariant_of-self : goal.invariant_of-self
invariant_of-self g c = (kept g c).is

pub returns-clause-round : goal.returns-clause-round
returns-clause-round g c =
    subst (λ (m : MachineSeen g.row.S.Denot). OnOk c.finish.result (FinishesRound c.args.session m.words m.seats (words_now g c) (seats_now g c))) c.self.view_is c.finish.ensures.round

pub returns-clause-stops : goal.returns-clause-stops
returns-clause-stops g c =
    subst (λ (m : MachineSeen g.row.S.Denot). StopsIn (world_of m) (run_state m) (orders.Frame c.args.session) (state_in (tiers g c) (words_now g c) (seats_now g c) (board g c))) c.self.view_is (stops g c)

pub returns-clause-told : goal.returns-clause-told
returns-clause-told g c =
    subst (λ (m : MachineSeen g.row.S.Denot). Stays (seat_told m.seats.sessions) (seat_told (seats_now g c).sessions)) c.self.view_is c.finish.ensures.told

pub returns-clause-place : goal.returns-clause-place
returns-clause-place g c =
    subst (λ (m : MachineSeen g.row.S.Denot). KeepsPlace m (seen_now g c)) c.self.view_is (record { world = (kept g c).world; mesh = refl; file = refl; bytes = refl; lender = refl })
