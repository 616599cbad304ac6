use Rattle.std.proofs.Common.{◌≡◌, ℕ, List, refl, subst}
use Rattle.view_outside.specs.Streams.{appended}
use Rattle.view_outside.specs.Written.{WritesPart}
use Rattle.view_machine.specs.declared.refusals.RunRefusal.{RunRefusal}
use Rattle.view_machine.specs.declared.refusals.RunRefusal.TheVariants.{Memory, WriteFault}
use Rattle.view_machine.specs.Machines.{world_of, run_state}
use Rattle.view_machine.specs.LineEnds.{StopsLine}
use Rattle.view_machine.specs.LineOutputs.{line_printed, line_unwritten, refusal_known, no_memory_refusal}
use Rattle.view_machine.proofs.machines.Machine.line.Goals as goal

pub returns-clause-did : goal.returns-clause-did
returns-clause-did g c =
    let old = c.args.self.now in
    let new = c.line_output.new.self in
    let before = g.O.Sink.written c.args.sink.now in
    let after = g.O.Sink.written c.write_all.new.sink in
    line_printed (world_of old) c.args.order.now (run_state old) (run_state new) c.in_ok-text.text.items
    (g.S.Store.faults old.chain.store) (g.S.Store.faults new.chain.store) (g.S.Store.taken old.chain.store) (g.S.Store.taken new.chain.store) before after
    c.in_ok-text.ensures.line
    (subst (λ (text : List ℕ). after ≡ appended before text) c.deref.ensures.value c.in_ok-write_all.ensures.text)

pub returns-in_err-text-clause-stops : goal.returns-in_err-text-clause-stops
returns-in_err-text-clause-stops g c =
    let old = c.args.self.now in
    let new = c.line_output.new.self in
    let written = g.O.Sink.written c.args.sink.now in
    let faults = g.O.Sink.faults c.args.sink.now in
    refusal_known c.from_residual.result Memory
    (λ (refusal : RunRefusal). StopsLine refusal (world_of old) c.args.order.now (run_state old) (run_state new) (g.S.Store.faults old.chain.store) (g.S.Store.faults new.chain.store) faults faults written written)
    c.from_residual.ensures.1 (record { stops = c.in_err-text.ensures.none; nothing = refl })

pub returns-in_err-write_all-clause-stops : goal.returns-in_err-write_all-clause-stops
returns-in_err-write_all-clause-stops g c =
    let old = c.args.self.now in
    let new = c.line_output.new.self in
    let before = g.O.Sink.written c.args.sink.now in
    let after = g.O.Sink.written c.write_all.new.sink in
    let faults = g.O.Sink.faults c.args.sink.now in
    let faults_now = g.O.Sink.faults c.write_all.new.sink in
    refusal_known c.from_residual-in_err-write_all.result WriteFault
    (λ (refusal : RunRefusal). StopsLine refusal (world_of old) c.args.order.now (run_state old) (run_state new) (g.S.Store.faults old.chain.store) (g.S.Store.faults new.chain.store) faults faults_now before after)
    c.from_residual-in_err-write_all.ensures.1
    (line_unwritten (world_of old) c.args.order.now (run_state old) (run_state new) c.in_ok-text.text.items
    (g.S.Store.faults old.chain.store) (g.S.Store.faults new.chain.store) (g.S.Store.taken old.chain.store) (g.S.Store.taken new.chain.store) faults faults_now before after
    c.in_ok-text.ensures.line
    (subst (λ (text : List ℕ). WritesPart before after text) c.deref.ensures.value c.in_err-write_all.ensures.text)
    c.in_err-write_all.ensures.cause)

pub returns-in_err-text-clause-refused : goal.returns-in_err-text-clause-refused
returns-in_err-text-clause-refused g c = λ session view is same. c.in_err-text.ensures.refused session view is

pub returns-in_err-write_all-clause-refused : goal.returns-in_err-write_all-clause-refused
returns-in_err-write_all-clause-refused g c = λ session view is same. absurd (no_memory_refusal c.from_residual-in_err-write_all.result c.from_residual-in_err-write_all.ensures.1 same)
