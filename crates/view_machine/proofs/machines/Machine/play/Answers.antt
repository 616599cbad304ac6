-- The lines are those of the script.
use Rattle.std.proofs.Common.{ℕ, length, sym, subst}
use Rattle.script_model.specs.Scripts.{AreLines}
use Rattle.view_machine.proofs.machines.Machine.play.Goals as goal

pub play_lines-requires-clause-rules : goal.play_lines-requires-clause-rules
play_lines-requires-clause-rules g c =
    let mode = c.args.script.now.mode in
    (mode, subst (AreLines mode (length c.args.self.now.chain.tiers)) (sym c.lines.ensures.value) (subst (λ (n : ℕ). AreLines mode n c.args.script.now.lines) c.requires.tiers c.lines.ensures.rules))

pub returns-clause-ran : goal.returns-clause-ran
returns-clause-ran g c = rw (← c.lines.ensures.value) c.play_lines.ensures.ran

pub returns-clause-stops : goal.returns-clause-stops
returns-clause-stops g c = rw (← c.lines.ensures.value) c.play_lines.ensures.stops
