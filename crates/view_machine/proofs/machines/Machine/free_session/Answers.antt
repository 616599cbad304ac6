use Rattle.std.proofs.Common.{ℕ, List, Option, refl, sym, subst}
use Rattle.token_words.specs.Changes.{Stays}
use Rattle.session_seats.specs.Seats.{seat_told, SeatsSeen, AreSeated}
use Rattle.mesh_model.specs.Meshes.{MeshLists}
use Rattle.view_outside.specs.Files.{file_bytes}
use Rattle.script_model.specs.declared.orders.Order.TheVariants as orders
use Rattle.token_words.specs.PlainTokens.{words_seen}
use Rattle.token_words.specs.declared.entries.Entry.{Entry}
use Rattle.tier_model.specs.Tiers.{TierState}
use Rattle.wish_board.specs.Boards.{BoardSeen}
use Rattle.run_model.specs.Lines.{DidFree, Does}
use Rattle.view_machine.specs.Machines.{MachineSeen, world_of, run_state, world_with, state_in, KeepsPlace, IsMachine}
use Rattle.view_machine.specs.MachineLaws.{KeepsMachine}
use Rattle.view_machine.specs.SeatLines.{seats_do, does_keep}
use Rattle.view_machine.proofs.machines.Machine.free_session.Goals as goal
use Rattle.view_machine.proofs.machines.Machine.free_session.Given as given

pub free-requires-clause-seated : goal.free-requires-clause-seated
free-requires-clause-seated g c =
    let m = c.self.inside in
    subst (λ (lists : MeshLists). AreSeated lists (words_seen m.words) m.seats.sessions) (sym c.self.invariant.over) c.self.invariant.seated

module _ (g : given.Over) (c : goal.After-free g) where
  abbrev mesh : MeshLists
  mesh = c.self.inside.chain.mesh.lists

  abbrev bytes : Option (List ℕ)
  bytes = file_bytes (g.S.Store.files c.self.inside.chain.store) c.self.inside.chain.file

  abbrev tiers : List TierState
  tiers = c.self.inside.chain.tiers

  abbrev words : List Entry
  words = words_seen c.self.inside.words

  abbrev words_now : List Entry
  words_now = words_seen c.free.new.words

  abbrev seats : SeatsSeen
  seats = c.self.inside.seats

  abbrev seats_now : SeatsSeen
  seats_now = c.free.new.self

  abbrev board : BoardSeen
  board = c.self.inside.board

  abbrev is : IsMachine mesh bytes tiers words seats board
  is = c.self.invariant

  does : Does (world_with mesh bytes tiers) (state_in tiers words seats board) (orders.Free c.args.session) (DidFree c.args.session c.free.result) (state_in tiers words_now seats_now board)
  does = seats_do mesh bytes tiers words seats board is words_now seats_now (orders.Free c.args.session) (DidFree c.args.session c.free.result) c.free.ensures.does

  abbrev seen_now : MachineSeen g.row.S.Denot
  seen_now = record { chain = c.self.inside.chain; words = words_now; seats = seats_now; board = board; bytes = bytes }

  kept : KeepsMachine mesh bytes tiers tiers words_now seats_now board
  kept =
      let e = c.free.ensures in
      does_keep mesh bytes tiers words seats board is words_now seats_now (orders.Free c.args.session) (DidFree c.args.session c.free.result) board does e.mesh e.seated is.on_board e.words.pins

pub invariant_of-self : goal.invariant_of-self
invariant_of-self g c = (kept g c).is

pub returns-clause-does : goal.returns-clause-does
returns-clause-does g c =
    subst (λ (m : MachineSeen g.row.S.Denot). Does (world_of m) (run_state m) (orders.Free c.args.session) (DidFree c.args.session c.free.result) (state_in (tiers g c) (words_now g c) (seats_now g c) (board g c))) c.self.view_is (does g c)

pub returns-clause-place : goal.returns-clause-place
returns-clause-place g c =
    subst (λ (m : MachineSeen g.row.S.Denot). KeepsPlace m (seen_now g c)) c.self.view_is (record { world = (kept g c).world; mesh = refl; file = refl; bytes = refl; lender = refl })

pub returns-clause-told : goal.returns-clause-told
returns-clause-told g c =
    subst (λ (m : MachineSeen g.row.S.Denot). Stays (seat_told m.seats.sessions) (seat_told (seats_now g c).sessions)) c.self.view_is c.free.ensures.told
