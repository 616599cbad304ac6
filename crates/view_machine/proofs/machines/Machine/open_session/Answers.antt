use Rattle.std.proofs.Common.{Some, refl, subst}
use Rattle.token_words.specs.Changes.{SetAt}
use Rattle.session_seats.specs.Seats.{seat_told}
use Rattle.session_model.specs.Told.{just_opened}
use Rattle.view_outside.specs.Files.{file_bytes}
use Rattle.script_model.specs.declared.orders.Order.TheVariants as orders
use Rattle.token_words.specs.PlainTokens.{words_seen}
use Rattle.run_model.specs.Lines.{DidOpen, Does}
use Rattle.view_machine.specs.Machines.{MachineSeen, world_of, run_state, state_in}
use Rattle.view_machine.specs.SeatLines.{seats_do, does_keep}
use Rattle.view_machine.proofs.machines.Machine.open_session.Goals as goal

pub invariant_of-self-2 : goal.invariant_of-self-2
invariant_of-self-2 g c =
    let m = c.self.inside in
    let bytes = file_bytes (g.S.Store.files m.chain.store) m.chain.file in
    let words = words_seen m.words in
    let e = c.in_ok-open.ensures in
    let order = orders.Open c.args.session in
    let did = DidOpen c.args.session in
    (does_keep m.chain.mesh.lists bytes m.chain.tiers words m.seats m.board c.self.invariant words c.open.new.self order did m.board
    (seats_do m.chain.mesh.lists bytes m.chain.tiers words m.seats m.board c.self.invariant words c.open.new.self order did e.does) e.mesh e.seated c.self.invariant.on_board (λ p. refl)).is

pub returns-clause-does : goal.returns-clause-does
returns-clause-does g c =
    let m = c.self.inside in
    let bytes = file_bytes (g.S.Store.files m.chain.store) m.chain.file in
    let words = words_seen m.words in
    let order = orders.Open c.args.session in
    let did = DidOpen c.args.session in
    subst (λ (seen : MachineSeen g.row.S.Denot). Does (world_of seen) (run_state seen) order did (state_in m.chain.tiers words c.open.new.self m.board)) c.self.view_is
    (seats_do m.chain.mesh.lists bytes m.chain.tiers words m.seats m.board c.self.invariant words c.open.new.self order did c.in_ok-open.ensures.does)

pub returns-clause-told : goal.returns-clause-told
returns-clause-told g c =
    subst (λ (seen : MachineSeen g.row.S.Denot). SetAt (seat_told seen.seats.sessions) c.args.session (Some just_opened) (seat_told c.open.new.self.sessions)) c.self.view_is c.in_ok-open.ensures.told
