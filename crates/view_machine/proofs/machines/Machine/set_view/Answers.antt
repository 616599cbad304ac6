use Rattle.std.proofs.Common.{◌≡◌, ◌+◌, ◌<◌, ◌≤◌, ◌^◌, Some, refl, sym, ap, subst, ◌∙◌, arith}
use Rattle.token_words.specs.Changes.{SetAt}
use Rattle.session_seats.specs.Seats.{seat_told, AreSeated}
use Rattle.session_model.specs.Told.{SessionTold, told_view}
use Rattle.session_seats.specs.Boards.{posted_on, posting_view, IsBoardFor}
use Rattle.session_seats.specs.BoardLaws.{posted_version}
use Rattle.wish_board.specs.Boards.{BoardSeen}
use Rattle.mesh_model.specs.Meshes.{MeshLists}
use Rattle.view_outside.specs.Files.{file_bytes}
use Rattle.script_model.specs.declared.orders.Order.TheVariants as orders
use Rattle.token_words.specs.PlainTokens.{words_seen}
use Rattle.run_model.specs.Lines.{DidView, Does}
use Rattle.view_machine.specs.Machines.{MachineSeen, world_of, run_state, state_in}
use Rattle.view_machine.specs.SeatLines.{seats_post, does_keep}
use Rattle.view_machine.proofs.machines.Machine.set_view.Goals as goal

pub invariant_of-self-2 : goal.invariant_of-self-2
invariant_of-self-2 g c =
    let m = c.self.inside in
    let bytes = file_bytes (g.S.Store.files m.chain.store) m.chain.file in
    let words = words_seen m.words in
    let e = c.in_ok-set_view.ensures in
    let seats_now = c.set_view.new.self in
    let board_now = c.set_view.new.board in
    let order = orders.View c.args.session c.args.view in
    let did = DidView c.args.session in
    let seated : AreSeated m.seats.mesh words m.seats.sessions = subst (λ (lists : MeshLists). AreSeated lists words m.seats.sessions) (sym c.self.invariant.over) c.self.invariant.seated in
    (does_keep m.chain.mesh.lists bytes m.chain.tiers words m.seats m.board c.self.invariant words seats_now order did board_now
    (seats_post m.chain.mesh.lists bytes m.chain.tiers words m.seats m.board c.self.invariant words seats_now order did board_now (e.does words seated)) e.mesh (e.seated words seated)
    (subst (λ (lists : MeshLists). IsBoardFor lists board_now) (e.mesh ∙ c.self.invariant.over) e.board) (λ p. refl)).is

pub returns-clause-does : goal.returns-clause-does
returns-clause-does g c =
    let m = c.self.inside in
    let bytes = file_bytes (g.S.Store.files m.chain.store) m.chain.file in
    let words = words_seen m.words in
    let seats_now = c.set_view.new.self in
    let board_now = c.set_view.new.board in
    let order = orders.View c.args.session c.args.view in
    let did = DidView c.args.session in
    let seated : AreSeated m.seats.mesh words m.seats.sessions = subst (λ (lists : MeshLists). AreSeated lists words m.seats.sessions) (sym c.self.invariant.over) c.self.invariant.seated in
    subst (λ (seen : MachineSeen g.row.S.Denot). Does (world_of seen) (run_state seen) order did (state_in m.chain.tiers words seats_now board_now)) c.self.view_is
    (seats_post m.chain.mesh.lists bytes m.chain.tiers words m.seats m.board c.self.invariant words seats_now order did board_now (c.in_ok-set_view.ensures.does words seated))

pub returns-clause-told : goal.returns-clause-told
returns-clause-told g c =
    subst (λ (seen : MachineSeen g.row.S.Denot). (told : SessionTold) → seat_told seen.seats.sessions c.args.session ≡ Some told → SetAt (seat_told seen.seats.sessions) c.args.session (Some (told_view told c.args.view)) (seat_told c.set_view.new.self.sessions)) c.self.view_is c.in_ok-set_view.ensures.told

pub returns-clause-version : goal.returns-clause-version
returns-clause-version g c =
    let m = c.self.inside in
    let few : m.board.version < 2 ^ 63 = subst (λ (seen : MachineSeen g.row.S.Denot). seen.board.version < 2 ^ 63) (sym c.self.view_is) c.requires.few in
    let posted : (posted_on m.board c.args.session c.args.view m.seats.mesh).version ≡ m.board.version + 1 = posted_version m.board c.args.session (Some (posting_view c.args.view m.seats.mesh)) few in
    let now : c.set_view.new.board.version ≡ m.board.version + 1 = ap (λ (b : BoardSeen). b.version) c.in_ok-set_view.ensures.posted ∙ posted in
    subst (λ (seen : MachineSeen g.row.S.Denot). c.set_view.new.board.version ≤ seen.board.version + 1) c.self.view_is (omega (arith, now))
