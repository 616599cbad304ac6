use Rattle.std.proofs.Common.{List, map, ap, ◌∙◌}
use Rattle.cache_chain.specs.declared.parts.TurnLine.{TurnLine}
use Rattle.frame_writer.proofs.LineLemmas.{on_err}
use Rattle.run_model.specs.Lines.{DidTurns, DoesSettle}
use Rattle.run_model.specs.LineTexts.{turn_lines}
use Rattle.view_machine.specs.Machines.{world_of, run_state}
use Rattle.view_machine.specs.OwnStops.{BeforeText}
use Rattle.view_machine.specs.TextSteps.{settles_text}
use Rattle.view_machine.specs.TurnClauses.{turn_in, if_ok_then}
use Rattle.view_machine.proofs.machines.Machine.settle.Goals as goal

pub returns-clause-line : goal.returns-clause-line
returns-clause-line g c =
    let old = c.args.self.now in
    let new = c.settle_tiers.new.self in
    if_ok_then c.turns_text.result
    (λ text is. settles_text (world_of old) (run_state old) c.new-log.result.items c.settle_tiers.new.log.items (run_state new) (g.S.Store.faults old.chain.store) (g.S.Store.faults new.chain.store) (g.S.Store.taken old.chain.store) (g.S.Store.taken new.chain.store) text.items
    c.new-log.ensures.items c.in_ok-settle_tiers.ensures.settles (is ∙ ap (λ (log : List TurnLine). turn_lines (map turn_in log)) c.deref.ensures.value))
    c.turns_text.ensures

pub returns-clause-none : goal.returns-clause-none
returns-clause-none g c =
    let settles = c.in_ok-settle_tiers.ensures.settles in
    on_err c.turns_text.result (BeforeText (DidTurns settles.turns) (DoesSettle settles.settles))
