use Rattle.run_model.specs.LineTexts.{turn_lines}
use Rattle.view_machine.specs.TextSteps.{turn_text_more}
use Rattle.view_machine.proofs.machines.tiers.turns_text.Goals as goal

pub loop-line-init : goal.loop-line-init
unfolding turn_lines
loop-line-init c = c.new-text.ensures.items

pub loop-line-preserved : goal.loop-line-preserved
loop-line-preserved c = turn_text_more c.args.log.now c.loop-line.line-index _ c.loop-line.text.items c.add_turn.new.out.items c.loop-line-test.true c.loop-line.invariant c.in_ok-add_turn.ensures.ok
