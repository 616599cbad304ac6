use Rattle.std.proofs.Common.{ℕ, ◌+◌, ◌<◌, ◌≤◌, ◌^◌, List, Option, None, refl, sym, subst, ◌∙◌}
use Rattle.token_words.specs.Changes.{SetAt}
use Rattle.session_seats.specs.Seats.{seat_told, SeatsSeen, AreSeated}
use Rattle.session_seats.specs.BoardLaws.{taken_off_version}
use Rattle.wish_board.specs.Boards.{without_view, BoardSeen}
use Rattle.mesh_model.specs.Meshes.{MeshLists}
use Rattle.view_outside.specs.Files.{file_bytes}
use Rattle.script_model.specs.declared.orders.Order.TheVariants as orders
use Rattle.token_words.specs.PlainTokens.{words_seen}
use Rattle.token_words.specs.declared.entries.Entry.{Entry}
use Rattle.tier_model.specs.Tiers.{TierState}
use Rattle.run_model.specs.Lines.{DidClose, Does}
use Rattle.session_seats.specs.Boards.{IsBoardFor}
use Rattle.view_machine.specs.Machines.{MachineSeen, world_of, run_state, world_with, state_in, KeepsPlace, IsMachine}
use Rattle.view_machine.specs.MachineLaws.{KeepsMachine}
use Rattle.view_machine.specs.SeatLines.{seats_post, does_keep}
use Rattle.view_machine.proofs.machines.Machine.close_session.Goals as goal
use Rattle.view_machine.proofs.machines.Machine.close_session.Given as given

pub close-requires-clause-seated : goal.close-requires-clause-seated
close-requires-clause-seated g c =
    let m = c.self.inside in
    subst (λ (lists : MeshLists). AreSeated lists (words_seen m.words) m.seats.sessions) (sym c.self.invariant.over) c.self.invariant.seated

pub close-requires-clause-board : goal.close-requires-clause-board
close-requires-clause-board g c =
    let m = c.self.inside in
    subst (λ (lists : MeshLists). IsBoardFor lists m.board) (sym c.self.invariant.over) c.self.invariant.on_board

module _ (g : given.Over) (c : goal.After-close g) where
  abbrev mesh : MeshLists
  mesh = c.self.inside.chain.mesh.lists

  abbrev bytes : Option (List ℕ)
  bytes = file_bytes (g.S.Store.files c.self.inside.chain.store) c.self.inside.chain.file

  abbrev tiers : List TierState
  tiers = c.self.inside.chain.tiers

  abbrev words : List Entry
  words = words_seen c.self.inside.words

  abbrev words_now : List Entry
  words_now = words_seen c.close.new.words

  abbrev seats : SeatsSeen
  seats = c.self.inside.seats

  abbrev seats_now : SeatsSeen
  seats_now = c.close.new.self

  abbrev board : BoardSeen
  board = c.self.inside.board

  abbrev is : IsMachine mesh bytes tiers words seats board
  is = c.self.invariant

  abbrev board_now : BoardSeen
  board_now = c.close.new.board

  does : Does (world_with mesh bytes tiers) (state_in tiers words seats board) (orders.Close c.args.session) (DidClose c.args.session c.close.result) (state_in tiers words_now seats_now board_now)
  does = seats_post mesh bytes tiers words seats board is words_now seats_now (orders.Close c.args.session) (DidClose c.args.session c.close.result) board_now c.close.ensures.does

  abbrev seen_now : MachineSeen g.row.S.Denot
  seen_now = record { chain = c.self.inside.chain; words = words_now; seats = seats_now; board = board_now; bytes = bytes }

  kept : KeepsMachine mesh bytes tiers tiers words_now seats_now board_now
  kept =
      let e = c.close.ensures in
      does_keep mesh bytes tiers words seats board is words_now seats_now (orders.Close c.args.session) (DidClose c.args.session c.close.result) board_now does e.mesh e.seated (subst (λ (lists : MeshLists). IsBoardFor lists board_now) (e.mesh ∙ is.over) e.board) e.words.pins

pub invariant_of-self : goal.invariant_of-self
invariant_of-self g c = (kept g c).is

pub returns-clause-does : goal.returns-clause-does
returns-clause-does g c =
    subst (λ (m : MachineSeen g.row.S.Denot). Does (world_of m) (run_state m) (orders.Close c.args.session) (DidClose c.args.session c.close.result) (state_in (tiers g c) (words_now g c) (seats_now g c) (board_now g c))) c.self.view_is (does g c)

pub returns-clause-place : goal.returns-clause-place
returns-clause-place g c =
    subst (λ (m : MachineSeen g.row.S.Denot). KeepsPlace m (seen_now g c)) c.self.view_is (record { world = (kept g c).world; mesh = refl; file = refl; bytes = refl; lender = refl })

pub returns-clause-told : goal.returns-clause-told
returns-clause-told g c =
    subst (λ (m : MachineSeen g.row.S.Denot). SetAt (seat_told m.seats.sessions) c.args.session None (seat_told (seats_now g c).sessions)) c.self.view_is c.close.ensures.told

pub returns-clause-version : goal.returns-clause-version
returns-clause-version g c =
    let few : (board g c).version < 2 ^ 63 = subst (λ (m : MachineSeen g.row.S.Denot). m.board.version < 2 ^ 63) (sym c.self.view_is) c.requires.few in
    let most : (without_view (board g c) c.args.session).version ≤ (board g c).version + 1 = taken_off_version (board g c) c.args.session few in
    subst (λ (m : MachineSeen g.row.S.Denot). (board_now g c).version ≤ m.board.version + 1) c.self.view_is
    (subst (λ (b : BoardSeen). b.version ≤ (board g c).version + 1) (sym c.close.ensures.taken_off) most)
