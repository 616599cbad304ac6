use Rattle.std.proofs.Common.{◌≡◌, ℕ, ◌+◌, ◌≤◌, Bool, true, List, Option, length, refl, subst, ◌∙◌, arith}
use Rattle.live_model.specs.declared.limits.TheConstants.{MOST_LINES}
use Rattle.live_machine.specs.declared.refusals.DriveRefusal.{DriveRefusal}
use Rattle.live_machine.specs.Drives.{StopsDriving}
use Rattle.live_machine.specs.DriveSteps.{nothing_driven, driven_more, driven_ends, driven_stops, driven_full, closed_frames}
use Rattle.live_machine.specs.Stepping.{AnswersNext, NextGives, StopsNext, refusal_known}
use Rattle.run_model.specs.Worlds.{World}
use Rattle.view_machine.specs.FrameLines.{place_then}
use Rattle.view_machine.specs.Machines.{world_of, run_state}
use Rattle.live_machine.proofs.driving.drive.Goals as goal

pub lines-init : goal.lines-init
lines-init g c =
    let m = c.args.machine.now in
    record {
      driven = nothing_driven (world_of m) (run_state m) (g.I.Source.rest c.args.source.now) (g.O.Sink.written c.args.sink.now) c.new-reader.result.kept c.new-reader.ensures.kept;
      many = refl;
      history = c.no_sessions-sessions.ensures;
      place = record { world = refl; mesh = refl; file = refl; bytes = refl; lender = refl };
      version = omega arith;
      frames = λ (i : ℕ). let none = closed_frames m.seats.sessions i (c.requires.closed i) in omega (arith, none);
      files = refl;
      later = omega arith;
      source_later = omega arith;
      sink_later = omega arith;
    }

pub returns-in_err-more-clause-stops : goal.returns-in_err-more-clause-stops
returns-in_err-more-clause-stops g c =
    let m = c.args.machine.now in
    let mid = c.lines.machine in
    let new = c.answer_next.new.machine in
    let told = g.I.Source.rest c.args.source.now in
    let rest = g.I.Source.rest c.lines.source in
    let rest_now = g.I.Source.rest c.answer_next.new.source in
    let before = g.O.Sink.written c.args.sink.now in
    let between = g.O.Sink.written c.lines.sink in
    let after = g.O.Sink.written c.answer_next.new.sink in
    let kept = c.lines.reader.kept in
    let kept_now = c.answer_next.new.reader.kept in
    let why = c.in_err-more.field-0.0 in
    let stops = subst (λ (w : World). StopsNext why w (run_state mid) (run_state new) kept kept_now rest rest_now between after) c.lines.invariant.place.world c.in_err-more.ensures.stops in
    refusal_known c.from_residual.result why
    (λ (r : DriveRefusal). StopsDriving r (world_of m) (run_state m) (run_state new) told rest_now before after)
    c.from_residual.ensures.1
    (driven_stops (world_of m) (run_state m) (run_state mid) told kept rest before between c.lines.invariant.driven why (run_state new) kept_now rest_now after stops)

pub lines-preserved : goal.lines-preserved
lines-preserved g c =
    let m = c.args.machine.now in
    let mid = c.lines.machine in
    let new = c.answer_next.new.machine in
    let rest = g.I.Source.rest c.lines.source in
    let rest_now = g.I.Source.rest c.answer_next.new.source in
    let between = g.O.Sink.written c.lines.sink in
    let after = g.O.Sink.written c.answer_next.new.sink in
    let kept = c.lines.reader.kept in
    let kept_now = c.answer_next.new.reader.kept in
    let i = c.lines.invariant in
    let e = c.in_ok-more.ensures in
    let keeps = e.keeps in
    let given = subst (λ (b : Bool). NextGives b (world_of mid) (run_state mid) (run_state new) kept kept_now rest rest_now between after) c.if-not-more.false e.answered in
    let next = subst (λ (w : World). AnswersNext w (run_state mid) (run_state new) kept kept_now rest rest_now between after) i.place.world given in
    let more =
    driven_more (world_of m) (run_state m) (run_state mid) (g.I.Source.rest c.args.source.now) kept rest (g.O.Sink.written c.args.sink.now) between i.driven (run_state new) kept_now rest_now after next in
    record {
      driven = more.on;
      many = omega (arith, i.many, more.one, c.lines-test.true);
      history = e.history;
      place = place_then m mid new i.place keeps.place;
      version = omega (arith, i.version, keeps.version, c.lines-test.true);
      frames = λ (j : ℕ). omega (arith, i.frames j, keeps.frames.rise j, c.lines-test.true);
      files = keeps.files ∙ i.files;
      later = omega (arith, i.later, keeps.later);
      source_later = omega (arith, i.source_later, e.source_later);
      sink_later = omega (arith, i.sink_later, e.sink_later);
    }

pub returns-clause-drove : goal.returns-clause-drove
returns-clause-drove g c =
    let m = c.args.machine.now in
    driven_full (world_of m) (run_state m) (run_state c.lines.machine) (g.I.Source.rest c.args.source.now) c.lines.reader.kept (g.I.Source.rest c.lines.source) (g.O.Sink.written c.args.sink.now) (g.O.Sink.written c.lines.sink) c.lines.invariant.driven
    (omega (arith, c.lines.invariant.many, c.lines-test.false))
