use Rattle.std.proofs.Common.{◌≡◌, ℕ, List, Option, Some, refl, sym, subst}
use Rattle.mesh_model.specs.Meshes.{MeshLists}
use Rattle.view_outside.specs.Files.{file_bytes}
use Rattle.token_words.specs.Changes.{SetAt}
use Rattle.token_words.specs.PlainTokens.{words_seen}
use Rattle.token_words.specs.declared.entries.Entry.{Entry}
use Rattle.tier_model.specs.Tiers.{TierState}
use Rattle.wish_board.specs.Boards.{BoardSeen}
use Rattle.resumed_model.specs.Rejoins.{recounted}
use Rattle.session_seats.specs.Seats.{SeatsSeen, AreSeated, IsOpen, seat_told}
use Rattle.session_model.specs.Told.{SessionTold, told_from}
use Rattle.view_machine.specs.Machines.{MachineSeen, run_state, state_in, KeepsPlace, IsMachine}
use Rattle.view_machine.specs.RestMachines.{counted_state, counted_machine}
use Rattle.view_machine.proofs.machines.Machine.count_from.Goals as goal
use Rattle.view_machine.proofs.machines.Machine.count_from.Given as given

pub count_from-requires : goal.count_from-requires
count_from-requires g c = subst (λ (m : MachineSeen g.row.S.Denot). IsOpen m.seats.sessions c.args.session) (sym c.self.view_is) c.requires

module _ (g : given.Over) (c : goal.After-count_from g) where
  abbrev mesh : MeshLists
  mesh = c.self.inside.chain.mesh.lists

  abbrev bytes : Option (List ℕ)
  bytes = file_bytes (g.S.Store.files c.self.inside.chain.store) c.self.inside.chain.file

  abbrev tiers : List TierState
  tiers = c.self.inside.chain.tiers

  abbrev words : List Entry
  words = words_seen c.self.inside.words

  abbrev seats : SeatsSeen
  seats = c.self.inside.seats

  abbrev seats_now : SeatsSeen
  seats_now = c.count_from.new.self

  abbrev board : BoardSeen
  board = c.self.inside.board

  abbrev is : IsMachine mesh bytes tiers words seats board
  is = c.self.invariant

  is_open : IsOpen seats.sessions c.args.session
  is_open = subst (λ (m : MachineSeen g.row.S.Denot). IsOpen m.seats.sessions c.args.session) (sym c.self.view_is) c.requires

  state : state_in tiers words seats_now board ≡ recounted (state_in tiers words seats board) c.args.session c.args.frames
  state = counted_state mesh bytes tiers words seats board is c.args.session c.args.frames is_open c.count_from.ensures.facts seats_now c.count_from.ensures.counted

  machine : IsMachine mesh bytes tiers words seats_now board
  machine =
      counted_machine mesh bytes tiers words seats board is c.args.session c.args.frames is_open c.count_from.ensures.facts seats_now c.count_from.ensures.counted
      (c.count_from.ensures.seated words (subst (λ (lists : MeshLists). AreSeated lists words seats.sessions) (sym is.over) is.seated))

  abbrev seen_now : MachineSeen g.row.S.Denot
  seen_now = record { chain = c.self.inside.chain; words = words; seats = seats_now; board = board; bytes = bytes }

pub invariant_of-self : goal.invariant_of-self
invariant_of-self g c = machine g c

pub returns-clause-state : goal.returns-clause-state
returns-clause-state g c =
    subst (λ (m : MachineSeen g.row.S.Denot). state_in (tiers g c) (words g c) (seats_now g c) (board g c) ≡ recounted (run_state m) c.args.session c.args.frames) c.self.view_is (state g c)

pub returns-clause-told : goal.returns-clause-told
returns-clause-told g c =
    subst (λ (m : MachineSeen g.row.S.Denot). (told : SessionTold) → seat_told m.seats.sessions c.args.session ≡ Some told → SetAt (seat_told m.seats.sessions) c.args.session (Some (told_from told c.args.frames)) (seat_told (seats_now g c).sessions)) c.self.view_is c.count_from.ensures.told

pub returns-clause-place : goal.returns-clause-place
returns-clause-place g c =
    subst (λ (m : MachineSeen g.row.S.Denot). KeepsPlace m (seen_now g c)) c.self.view_is (record { world = refl; mesh = refl; file = refl; bytes = refl; lender = refl })
