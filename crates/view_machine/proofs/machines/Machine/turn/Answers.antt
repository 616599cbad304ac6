use Rattle.std.proofs.Common.{ℕ, List, [], ◌∷◌, ◌++◌, sym, ap, ◌∙◌}
use Rattle.frame_writer.proofs.LineLemmas.{on_err}
use Rattle.run_model.specs.Lines.{DidTurns, DoesTurn}
use Rattle.run_model.specs.LineTexts.{turn_line}
use Rattle.view_machine.specs.LineTells.{one_turn}
use Rattle.view_machine.specs.OwnStops.{BeforeText}
use Rattle.view_machine.proofs.machines.Machine.turn.Goals as goal

pub returns-in_err-add_turn-clause-none : goal.returns-in_err-add_turn-clause-none
returns-in_err-add_turn-clause-none g c = on_err c.from_residual-in_err-add_turn.result (BeforeText (DidTurns ((c.args.tier, c.in_ok-turn.turn) ∷ [])) (DoesTurn c.args.tier c.in_ok-turn.turn c.in_ok-turn.ensures.turns))

pub returns-clause-line : goal.returns-clause-line
returns-clause-line g c = record {
  did = DidTurns ((c.args.tier, c.in_ok-turn.turn) ∷ []);
  does = DoesTurn c.args.tier c.in_ok-turn.turn c.in_ok-turn.ensures.turns;
  is = c.in_ok-add_turn.ensures.ok.is ∙ ap (λ (text : List ℕ). text ++ turn_line c.args.tier c.in_ok-turn.turn) c.new-text.ensures.items ∙ sym (one_turn c.args.tier c.in_ok-turn.turn);
  counts = c.in_ok-turn.ensures.counts;
}
