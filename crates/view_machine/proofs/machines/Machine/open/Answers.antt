use Rattle.std.proofs.Common.{List, ℕ, [], ◌++◌, codes, ap, ◌∙◌}
use Rattle.run_model.specs.Lines.{DidOpen}
use Rattle.run_model.specs.LineTexts.{session_line}
use Rattle.view_machine.proofs.machines.Machine.open.Goals as goal

pub returns-clause-line : goal.returns-clause-line
returns-clause-line g c = record {
  did = DidOpen c.args.session;
  does = c.in_ok-open_session.ensures.does;
  is = c.in_ok-add_open.ensures.ok.is ∙ ap (λ (t : List ℕ). t ++ session_line (codes "open") c.args.session []) c.new-text.ensures.items;
}
