use Rattle.std.proofs.Common.{◌≡◌, ℕ, ◌<◌, ◌^◌, List, length, Option, Some, refl, sym, subst}
use Rattle.mesh_model.specs.Meshes.{MeshLists}
use Rattle.view_outside.specs.Files.{file_bytes}
use Rattle.script_model.specs.declared.orders.Order.TheVariants as orders
use Rattle.session_model.specs.Sessions.{SessionState, printed_once}
use Rattle.token_words.specs.Changes.{SetAt}
use Rattle.token_words.specs.PlainTokens.{words_seen}
use Rattle.token_words.specs.declared.entries.Entry.{Entry}
use Rattle.token_words.specs.declared.session_sets.TheConstants.{SESSIONS}
use Rattle.tier_model.specs.Tiers.{TierState}
use Rattle.wish_board.specs.Boards.{BoardSeen}
use Rattle.run_model.specs.Lines.{DidFrame, Does, frame_of}
use Rattle.session_seats.specs.Orders.{FinishesRound}
use Rattle.session_seats.specs.Seats.{SeatsSeen, at_seat, with_seat, AreSeated, IsDoneAt, seat_told}
use Rattle.session_model.specs.Told.{SessionTold, one_frame_more}
use Rattle.view_machine.specs.Machines.{MachineSeen, world_of, state_in, KeepsPlace, IsMachine}
use Rattle.view_machine.specs.MachineLaws.{KeepsMachine}
use Rattle.view_machine.specs.LineEnds.{frames_at}
use Rattle.view_machine.specs.LineHistories.{few_of}
use Rattle.view_machine.specs.FrameSeats.{printed_keeps, printed_does}
use Rattle.view_machine.proofs.machines.Machine.print_session.Goals as goal
use Rattle.view_machine.proofs.machines.Machine.print_session.Given as given

pub printed-requires-clause-done : goal.printed-requires-clause-done
printed-requires-clause-done g c =
    subst (λ (m : MachineSeen g.row.S.Denot). IsDoneAt m.seats.sessions c.args.session) (sym c.self.view_is) c.requires.done

pub printed-requires-clause-few : goal.printed-requires-clause-few
printed-requires-clause-few g c =
    few_of c.self.inside.seats.sessions c.args.session
    (subst (λ (m : MachineSeen g.row.S.Denot). frames_at m.seats.sessions c.args.session < 2 ^ 63) (sym c.self.view_is) c.requires.few)

module _ (g : given.Over) (c : goal.After-printed g) where
  abbrev mesh : MeshLists
  mesh = c.self.inside.chain.mesh.lists

  abbrev bytes : Option (List ℕ)
  bytes = file_bytes (g.S.Store.files c.self.inside.chain.store) c.self.inside.chain.file

  abbrev tiers : List TierState
  tiers = c.self.inside.chain.tiers

  abbrev words : List Entry
  words = words_seen c.self.inside.words

  abbrev seats : SeatsSeen
  seats = c.self.inside.seats

  abbrev seats_now : SeatsSeen
  seats_now = c.printed.new.self

  abbrev board : BoardSeen
  board = c.self.inside.board

  abbrev is : IsMachine mesh bytes tiers words seats board
  is = c.self.invariant

  done : IsDoneAt seats.sessions c.args.session
  done = subst (λ (m : MachineSeen g.row.S.Denot). IsDoneAt m.seats.sessions c.args.session) (sym c.self.view_is) c.requires.done

  many : length seats.sessions ≡ SESSIONS
  many = subst (λ (m : MachineSeen g.row.S.Denot). length m.seats.sessions ≡ SESSIONS) (sym c.self.view_is) c.requires.seats

  printed : (s : SessionState) → at_seat seats.sessions c.args.session ≡ Some s → seats_now ≡ with_seat seats c.args.session (Some (printed_once s))
  printed = c.printed.ensures.printed

  kept : KeepsMachine mesh bytes tiers tiers words seats_now board
  kept =
      printed_keeps mesh bytes tiers words seats board is c.args.session seats_now printed done.session done.at done.done many
      (c.printed.ensures.seated words (subst (λ (lists : MeshLists). AreSeated lists words seats.sessions) (sym is.over) is.seated))

  abbrev seen_now : MachineSeen g.row.S.Denot
  seen_now = record { chain = c.self.inside.chain; words = words; seats = seats_now; board = board; bytes = bytes }

pub invariant_of-self : goal.invariant_of-self
invariant_of-self g c = (kept g c).is

pub returns-clause-does : goal.returns-clause-does
returns-clause-does g c =
    subst (λ (m : MachineSeen g.row.S.Denot). (ws : List Entry) (before : SeatsSeen) → m.seats.mesh ≡ before.mesh → (round : FinishesRound c.args.session ws before m.words m.seats)
    → Does (world_of m) (state_in m.chain.tiers ws before m.board) (orders.Frame c.args.session) (DidFrame (frame_of m.chain.tiers c.args.session round.last round.done.round)) (state_in (tiers g c) (words g c) (seats_now g c) (board g c))) c.self.view_is
    (printed_does (mesh g c) (bytes g c) (tiers g c) (words g c) (seats g c) (board g c) (is g c) c.args.session (seats_now g c) (printed g c))

pub returns-clause-told : goal.returns-clause-told
returns-clause-told g c =
    subst (λ (m : MachineSeen g.row.S.Denot). (told : SessionTold) → seat_told m.seats.sessions c.args.session ≡ Some told → SetAt (seat_told m.seats.sessions) c.args.session (Some (one_frame_more told)) (seat_told (seats_now g c).sessions)) c.self.view_is c.printed.ensures.told

pub returns-clause-place : goal.returns-clause-place
returns-clause-place g c =
    subst (λ (m : MachineSeen g.row.S.Denot). KeepsPlace m (seen_now g c)) c.self.view_is (record { world = (kept g c).world; mesh = refl; file = refl; bytes = refl; lender = refl })
