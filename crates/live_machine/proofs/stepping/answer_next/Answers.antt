use Rattle.std.proofs.Common.{◌≡◌, refl, rules}
use Rattle.line_reader.specs.declared.lines.LineRead.TheVariants.{End}
use Rattle.view_machine.specs.Machines.{world_of, run_state}
use Rattle.live_machine.specs.declared.refusals.DriveRefusal.{DriveRefusal}
use Rattle.live_machine.specs.declared.refusals.DriveRefusal.TheVariants.{Memory}
use Rattle.live_machine.specs.Refused.{of_reading}
use Rattle.live_machine.specs.Stepping.{StopsNext, next_held, refusal_known, unread_stops}
use Rattle.live_machine.proofs.stepping.answer_next.Goals as goal

pub returns-in_err-found-clause-stops : goal.returns-in_err-found-clause-stops
returns-in_err-found-clause-stops g c =
    let m = c.args.machine.now in
    let why = c.in_err-found.field-0.0 in
    let rest = g.I.Source.rest c.args.source.now in
    let rest_now = g.I.Source.rest c.read_line.new.source in
    let written = g.O.Sink.written c.args.sink.now in
    let kept = c.args.reader.now.kept in
    let kept_now = c.read_line.new.self.kept in
    refusal_known c.from_residual.result (of_reading why)
    (λ (r : DriveRefusal). StopsNext r (world_of m) (run_state m) (run_state m) kept kept_now rest rest_now written written)
    c.from_residual.ensures.1 (unread_stops why (world_of m) (run_state m) kept kept_now rest rest_now written)

pub returns-in_err-text-clause-stops : goal.returns-in_err-text-clause-stops
returns-in_err-text-clause-stops g c =
    let away : c.in_ok-found.found ≡ End → ⊥ = search rules in
    let n =
    next_held c.in_ok-found.found c.line.result.now c.read_line.new.self.line c.args.reader.now.kept c.read_line.new.self.kept (g.I.Source.rest c.args.source.now) (g.I.Source.rest c.read_line.new.source)
    away c.line.ensures c.in_ok-found.ensures.finds in
    refusal_known c.from_residual-in_err-text.result Memory _ c.from_residual-in_err-text.ensures.1
    (record { stops = (c.in_err-text.ensures n.line n.read).none; nothing = refl })

pub returns-in_err-text-clause-keeps : goal.returns-in_err-text-clause-keeps
returns-in_err-text-clause-keeps g c =
    let away : c.in_ok-found.found ≡ End → ⊥ = search rules in
    let n =
    next_held c.in_ok-found.found c.line.result.now c.read_line.new.self.line c.args.reader.now.kept c.read_line.new.self.kept (g.I.Source.rest c.args.source.now) (g.I.Source.rest c.read_line.new.source)
    away c.line.ensures c.in_ok-found.ensures.finds in
    (c.answer_read.ensures n.line n.read).keeps

pub returns-in_err-write_all-clause-keeps : goal.returns-in_err-write_all-clause-keeps
returns-in_err-write_all-clause-keeps g c =
    let away : c.in_ok-found.found ≡ End → ⊥ = search rules in
    let n =
    next_held c.in_ok-found.found c.line.result.now c.read_line.new.self.line c.args.reader.now.kept c.read_line.new.self.kept (g.I.Source.rest c.args.source.now) (g.I.Source.rest c.read_line.new.source)
    away c.line.ensures c.in_ok-found.ensures.finds in
    (c.answer_read.ensures n.line n.read).keeps

pub returns-clause-history : goal.returns-clause-history
returns-clause-history g c =
    let away : c.in_ok-found.found ≡ End → ⊥ = search rules in
    let n =
    next_held c.in_ok-found.found c.line.result.now c.read_line.new.self.line c.args.reader.now.kept c.read_line.new.self.kept (g.I.Source.rest c.args.source.now) (g.I.Source.rest c.read_line.new.source)
    away c.line.ensures c.in_ok-found.ensures.finds in
    (c.in_ok-text.ensures n.line n.read).history

pub returns-clause-keeps : goal.returns-clause-keeps
returns-clause-keeps g c =
    let away : c.in_ok-found.found ≡ End → ⊥ = search rules in
    let n =
    next_held c.in_ok-found.found c.line.result.now c.read_line.new.self.line c.args.reader.now.kept c.read_line.new.self.kept (g.I.Source.rest c.args.source.now) (g.I.Source.rest c.read_line.new.source)
    away c.line.ensures c.in_ok-found.ensures.finds in
    (c.answer_read.ensures n.line n.read).keeps
