use Rattle.std.proofs.Common.{ℕ, ◌+◌, List, take, drop, Some, ap, ◌∙◌, sym, arith}
use Rattle.std.proofs.lemmas.List.{take_all}
use Rattle.std.proofs.lemmas.List.{length-drop}
use Rattle.audit_lines.specs.Places.{has_line_feed}
use Rattle.audit_reading.proofs.FirstLines.{first_at, none_first}
use Rattle.audit_reading.proofs.lines.first_of.Goals as goal

pub returns-then-text-at-eq-LINE_FEED : goal.returns-then-text-at-eq-LINE_FEED
returns-then-text-at-eq-LINE_FEED c =
    let text = c.args.text.now in
    let at = c.loop-at.at in
    first_at text at c.loop-at-test.true c.loop-at.invariant c.if-text-at-eq-LINE_FEED.true
    ∙ ap (λ (rest : List ℕ). Some (record { line = take at text; rest = rest }))
    (sym (take_all _ (drop (at + 1) text) (omega (arith, length-drop (at + 1) text))))

pub returns : goal.returns
returns c =
    let text = c.args.text.now in
    none_first text (ap has_line_feed (sym (take_all c.loop-at.at text (omega arith))) ∙ c.loop-at.invariant)
