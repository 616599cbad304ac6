use Rattle.std.proofs.Common.{length, ap, ◌∙◌}
use Rattle.audit_lines.specs.Places.{Place}
use Rattle.audit_reading.proofs.Meeting.{ends_early}
use Rattle.audit_reading.proofs.readers.TextReader.line_behind.Goals as goal

pub returns-then-at-self-clause-met : goal.returns-then-at-self-clause-met
returns-then-at-self-clause-met c =
    let p = c.args.self.now in
    let at = c.loop-at.at in
    ends_early c.args.text.now p.rest p.line at c.loop-at.line c.loop-at.invariant c.loop-at-test.true
    (c.if-at-self.true ∙ ap (λ (place : Place). length place.rest) c.self.view_is)
