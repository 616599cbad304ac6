-- Each line that is played is a line more of the run.
use Rattle.std.proofs.Common.{◌<◌, ◌^◌, refl, ◌∙◌, arith}
use Rattle.std.proofs.lemmas.Result.{err_from_is_err_and}
use Rattle.view_machine.specs.RunLines.{plays_none, next_line, line_allowed, line_few, line_frames, plays_on, run_stops}
use Rattle.view_machine.proofs.machines.Machine.play_lines.Goals as goal

pub plays-init : goal.plays-init
plays-init g c = record {
  plays = plays_none c.requires.rules.0 c.args.self.now c.args.lines.now (g.S.Store.faults c.args.self.now.chain.store) (g.S.Store.taken c.args.self.now.chain.store) (g.O.Sink.written c.args.sink.now) c.requires.closed c.requires.rules.1;
  files = refl;
  later = omega arith;
  sink = omega arith;
}

pub line-requires-clause-allowed : goal.line-requires-clause-allowed
line-requires-clause-allowed g c = line_allowed _ _ _ _ _ _ _ _ _ _ _ c.plays.invariant.plays (next_line _ _ c.line-item.result c.plays-test.true c.line-item.is)

pub line-requires-clause-few : goal.line-requires-clause-few
line-requires-clause-few g c =
    let number : c.line-item.result.number < 2 ^ 32 = omega arith in
    line_few _ _ _ _ _ _ _ _ _ _ _ c.plays.invariant.plays (next_line _ _ c.line-item.result c.plays-test.true c.line-item.is) c.requires.few number

pub line-requires-clause-few_frames : goal.line-requires-clause-few_frames
line-requires-clause-few_frames g c =
    let number : c.line-item.result.number < 2 ^ 32 = omega arith in
    line_frames _ _ _ _ _ _ _ _ _ _ _ c.plays.invariant.plays (next_line _ _ c.line-item.result c.plays-test.true c.line-item.is) number

pub plays-preserved : goal.plays-preserved
plays-preserved g c =
    let e = c.line.ensures in
    let later = e.later in
    let had = c.plays.invariant.later in
    let sink_later = e.sink in
    let sink_had = c.plays.invariant.sink in
    record {
      plays =
          plays_on _ _ _ _ _ _ _ _ _ _ _ c.plays.invariant.plays (next_line _ _ c.line-item.result c.plays-test.true c.line-item.is) c.line.new.self (g.S.Store.faults c.line.new.self.chain.store) (g.S.Store.taken c.line.new.self.chain.store) (g.O.Sink.written c.line.new.sink)
          c.in_ok-line.ensures.did e.place e.version e.frames c.in_ok-line.ensures.history e.tiers;
      files = e.files ∙ c.plays.invariant.files;
      later = omega arith;
      sink = omega arith;
    }

pub returns-in_err-line-clause-stops : goal.returns-in_err-line-clause-stops
returns-in_err-line-clause-stops g c =
    let p = err_from_is_err_and c.from_residual.result c.from_residual.ensures.1 in
    rw (p.1, p.2)
    (run_stops _ _ _ _ _ _ _ _ _ _ _ c.plays.invariant.plays (next_line _ _ c.line-item.result c.plays-test.true c.line-item.is) c.in_err-line.field-0.0 c.line.new.self (g.S.Store.faults c.line.new.self.chain.store) (g.O.Sink.written c.line.new.sink) (g.O.Sink.faults c.args.sink.now) (g.O.Sink.faults c.plays.sink) (g.O.Sink.faults c.line.new.sink)
    c.line.ensures.later c.plays.invariant.sink c.in_err-line.ensures.stops)
