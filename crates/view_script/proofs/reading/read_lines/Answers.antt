use Rattle.std.proofs.Common.{eqb, length, rules, tests, arith, ◌∙◌}
use Rattle.std.proofs.lemmas.List.{length_push}
use Rattle.std.proofs.lemmas.Result.{err_from_is_err_and}
use Rattle.std.proofs.lemmas.Iterator.Consumers.{YieldsList-turn, YieldsList-end}
use Rattle.std.proofs.lemmas.Iterator.Splits.{YieldsList-from_slice_split}
use Rattle.script_model.specs.ScriptLines.{lines_of}
use Rattle.view_script.specs.Stages.{history_of}
use Rattle.view_script.proofs.TurnLemmas.{line_read, line_refused, lines_read}
use Rattle.view_script.proofs.reading.read_lines.Goals as goal

pub returns-in_err-add_line-clause-value : goal.returns-in_err-add_line-clause-value
returns-in_err-add_line-clause-value c =
    let t = YieldsList-turn (YieldsList-from_slice_split _ (λ byte. eqb byte 10) c.args.bytes.now (cc) (cc) (cc) (λ x b q k. search (rules, tests))) c.loop-line.yielded _ c.loop-line.yielded_by _ _ c.in-Some.line c.in-Some.is c.next.ensures.steps in
    let i = c.loop-line.invariant in
    let p = err_from_is_err_and c.from_residual.result c.from_residual.ensures.1 in
    rw (p.1, p.2) (line_refused c.args.mode c.args.tiers (history_of c.loop-line.reader.sessions) c.loop-line.number (lines_of c.args.bytes.now) (length c.loop-line.yielded) c.in-Some.line.now c.loop-line.reader.lines.items _ c.in_err-add_line.field-0.0
    t.0 t.1 (rw (i.for_mode, i.for_tiers) at c.in_err-add_line.ensures.added) i.so_far)

pub loop-line-preserved : goal.loop-line-preserved
loop-line-preserved c =
    let t = YieldsList-turn (YieldsList-from_slice_split _ (λ byte. eqb byte 10) c.args.bytes.now (cc) (cc) (cc) (λ x b q k. search (rules, tests))) c.loop-line.yielded _ c.loop-line.yielded_by _ _ c.in-Some.line c.in-Some.is c.next.ensures.steps in
    let i = c.loop-line.invariant in
    let a = c.in_ok-add_line.ensures.added in
    record {
      can_go_on = search rules;
      ends = search rules;
      numbered = omega (arith, length_push c.loop-line.yielded c.in-Some.line);
      for_mode = a.for_mode ∙ i.for_mode;
      for_tiers = a.for_tiers ∙ i.for_tiers;
      so_far = rw (a.lines, a.history, length_push c.loop-line.yielded c.in-Some.line)
          (line_read c.args.mode c.args.tiers (history_of c.loop-line.reader.sessions) c.loop-line.number (lines_of c.args.bytes.now) (length c.loop-line.yielded) c.in-Some.line.now c.loop-line.reader.lines.items _ a.read
          t.0 t.1 (rw (i.for_mode, i.for_tiers) at a.is) i.so_far);
    }

pub returns-clause-value : goal.returns-clause-value
returns-clause-value c =
    let t = YieldsList-end (YieldsList-from_slice_split _ (λ byte. eqb byte 10) c.args.bytes.now (cc) (cc) (cc) (λ x b q k. search (rules, tests))) c.loop-line.yielded _ c.loop-line.yielded_by _ _ c.in-None.is c.next.ensures.steps in
    rw c.into_lines.ensures (lines_read c.args.mode c.args.tiers (history_of c.loop-line.reader.sessions) c.loop-line.number (lines_of c.args.bytes.now) (length c.loop-line.yielded) c.loop-line.reader.lines.items _
    (omega (arith, t.1)) c.loop-line.invariant.so_far)
